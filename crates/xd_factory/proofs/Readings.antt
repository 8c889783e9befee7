-- What the reading of a payload makes of a message.
use Rattle.std.proofs.Common.{◌≡◌, ℕ, ◌≤◌, List, [], ◌∷◌, true, false, Some, None, Result, Ok, Err, refl, sym, ap, subst, ◌∙◌, ◌++◌}
use Rattle.std.specs.Prelude.{◌==◌}
use Rattle.std.proofs.lemmas.Bool.{and_parts}
use Rattle.xd_value.specs.Tree.{Tree, is_text, text}
use Rattle.xd_value.specs.View.{view}
use Rattle.xd_value.specs.Channels.{channels}
use Rattle.xd_value.specs.Payload.{IsPayload, FirstFault, IsValue, IsRefusal, IsLoadFault}
use Rattle.xd_value.specs.declared.value.Value.{Value}
use Rattle.xd_value.specs.declared.fault.LoadWhat.{LoadWhat}
use Rattle.xd_value.specs.declared.fault.LoadFault.{LoadFault}
use Rattle.xd_value.specs.declared.fault.LoadFault.TheVariants as load
use Rattle.xd_frame.specs.declared.kind.Kind.{Kind}
use Rattle.xd_frame.specs.declared.kind.Kind.TheVariants as kind
use Rattle.xd_frame.specs.Message.{MessageView}
use Rattle.xd_factory.specs.declared.word.Word.{Word}
use Rattle.xd_factory.specs.declared.word.Word.TheVariants as word
use Rattle.xd_factory.specs.declared.faults.SideFault.{SideFault}
use Rattle.xd_factory.specs.declared.faults.SideFault.TheVariants as fault
use Rattle.xd_factory.specs.Numbers.{is_in}
use Rattle.xd_factory.specs.Said.{Exec, Data, Close, Misread, IsMisread, IsFault, is_unnumbered, is_numbered, is_read}
use Rattle.xd_factory.specs.Reads.{ValueReads, TextReads, MessageReads}
use Rattle.xd_factory.proofs.Bounds.{payload_small, both_small, one_small}

-- a payload that was refused
bad : (b : List ℕ) (at : ℕ) (what : LoadWhat) → FirstFault b at what → ((v : Tree) → IsPayload v b → IsValue v (Err (load.Bad at what)))
    → ((p : ℕ) (f : LoadWhat) → FirstFault b p f → IsLoadFault p f (Err (load.Bad at what))) → ValueReads b (Err (fault.BadPayload what))
bad b at what h only faults = record { read = tt; only = λ v p. absurd (only v p); refused = (at, h); refuses = λ p f q. ap fault.BadPayload (faults p f q).1 }

pub unread : (b : List ℕ) (f : LoadFault) (at : ℕ) (what : LoadWhat) → f ≡ load.Bad at what → IsRefusal b f → ((v : Tree) → IsPayload v b → IsValue v (Err f))
    → ((p : ℕ) (g : LoadWhat) → FirstFault b p g → IsLoadFault p g (Err f)) → ValueReads b (Err (fault.BadPayload what))
unread b f at what e h only faults =
    bad b at what (subst (λ (x : LoadFault). IsRefusal b x) e h) (λ v p. subst (λ (x : LoadFault). IsValue v (Err x)) e (only v p))
    (λ p g q. subst (λ (x : LoadFault). IsLoadFault p g (Err x)) e (faults p g q))

-- a text of a payload
pub text_read : (b : List ℕ) (v : Value) (cs : List ℕ) → ValueReads b (Ok v) → view v ≡ text cs → TextReads b (Ok cs)
text_read b v cs h e = record {
  read = subst (λ (t : Tree). IsPayload t b) e h.read;
  only = λ ds p. let q : view v ≡ text ds = h.only (text ds) p in cc;
  refused = tt;
  refuses = λ at what p. h.refuses at what p;
  others = λ t p n. absurd (let q : view v ≡ t = h.only t p in let z : is_text t ≡ true = ap is_text (sym q ∙ e) in cc);
}

pub no_text : (b : List ℕ) (v : Value) → ValueReads b (Ok v) → is_text (view v) ≡ false → TextReads b (Err fault.NotText)
no_text b v h e = record {
  read = tt;
  only = λ cs p. absurd (let q : view v ≡ text cs = h.only (text cs) p in let z = ap is_text q in cc);
  refused = (view v, h.read, e);
  refuses = λ at what p. absurd (h.refuses at what p);
  others = λ t p n. refl;
}

pub no_value : (b : List ℕ) (f : SideFault) → ValueReads b (Err f) → TextReads b (Err f)
no_value b (fault.BadPayload what) h = record { read = tt; only = λ cs p. h.only (text cs) p; refused = h.refused; refuses = h.refuses; others = λ t p n. absurd (let z = h.only t p in cc) }
no_value b fault.OutOfMemory h = record { read = tt; only = λ cs p. refl; refused = tt; refuses = λ at what p. tt; others = λ t p n. tt }
no_value b fault.Finished h = absurd h.refused
no_value b fault.BadNumber h = absurd h.refused
no_value b fault.Unsupported h = absurd h.refused
no_value b fault.NotText h = absurd h.refused
no_value b fault.TooManyOpen h = absurd h.refused

-- a message that says nothing, and a text that is none
abbrev unsaid : SideFault → Result Word SideFault
unsaid f = Err f

abbrev unwritten : SideFault → Result (List ℕ) SideFault
unwritten f = Err f

abbrev message : Kind → ℕ → List ℕ → MessageView
message k c b = record { kind = k; channel = c; payload = b }

-- a message about a channel without a number
pub unnumbered-reads : (m : MessageView) → is_unnumbered m ≡ true → MessageReads m (Err fault.BadNumber)
unnumbered-reads m h = record {
  read = tt;
  only = λ said k. absurd (let z = k.numbered in cc);
  refused = h;
  refuses = faults;
  numbers = tt;
}
  where
    about : m.kind ≡ kind.Reconfigure → ⊥
    about e = let z = (and_parts (m.channel == 0) (is_numbered m.kind) h).1 in let y = ap is_numbered e in cc

    faults : (f : SideFault) → Misread m f → IsFault f (unsaid fault.BadNumber)
    faults fault.BadNumber k = refl
    faults fault.Unsupported k = absurd (about k)
    faults (fault.BadPayload what) k = absurd (let z = k.numbered in cc)
    faults fault.NotText k = absurd (let z = k.numbered in cc)
    faults fault.Finished k = absurd k
    faults fault.TooManyOpen k = absurd k
    faults fault.OutOfMemory k = absurd k

-- a message that is not read and not refused has no fault
sound : (k : Kind) (c : ℕ) (b : List ℕ) (w : Word) → is_unnumbered (message k c b) ≡ false → is_read k ≡ false → (k ≡ kind.Reconfigure → ⊥) → (f : SideFault) → Misread (message k c b) f → IsFault f (Ok w)
sound k c b w n r u fault.BadNumber h = let z = h in cc
sound k c b w n r u fault.Unsupported h = u h
sound k c b w n r u (fault.BadPayload what) h = let z = h.reads in cc
sound k c b w n r u fault.NotText h = let z = ap is_read h.error in cc
sound k c b w n r u fault.Finished h = h
sound k c b w n r u fault.TooManyOpen h = h
sound k c b w n r u fault.OutOfMemory h = h

nothing_named : (c : ℕ) → is_in c [] ≡ true → c ≤ 2147483647
nothing_named c h = absurd (let z = h in cc)

pub status-reads : (c : ℕ) (b : List ℕ) → is_unnumbered (message kind.Status c b) ≡ false → MessageReads (message kind.Status c b) (Ok (word.Status c))
status-reads c b n = record { read = record { numbered = n; says = refl }; only = λ said k. k.says; refused = tt; refuses = sound kind.Status c b (word.Status c) n refl (λ e. cc); numbers = nothing_named }

pub close-reads : (c : ℕ) (b : List ℕ) → c ≤ 2147483647 → is_unnumbered (message kind.Close c b) ≡ false → MessageReads (message kind.Close c b) (Ok (word.Close c None))
close-reads c b s n = record { read = record { numbered = n; says = refl }; only = λ said k. k.says; refused = tt; refuses = sound kind.Close c b (word.Close c None) n refl (λ e. cc); numbers = one_small c s }

pub last-reads : (c : ℕ) (b : List ℕ) → c ≤ 2147483647 → is_unnumbered (message kind.LastMessage c b) ≡ false → MessageReads (message kind.LastMessage c b) (Ok (word.Last c))
last-reads c b s n = record { read = record { numbered = n; says = refl }; only = λ said k. k.says; refused = tt; refuses = sound kind.LastMessage c b (word.Last c) n refl (λ e. cc); numbers = one_small c s }

pub terminate-reads : (c : ℕ) (b : List ℕ) → is_unnumbered (message kind.Terminate c b) ≡ false → MessageReads (message kind.Terminate c b) (Ok word.Terminate)
terminate-reads c b n = record { read = record { numbered = n; says = refl }; only = λ said k. k.says; refused = tt; refuses = sound kind.Terminate c b word.Terminate n refl (λ e. cc); numbers = nothing_named }

pub reconfigure-reads : (c : ℕ) (b : List ℕ) → is_unnumbered (message kind.Reconfigure c b) ≡ false → MessageReads (message kind.Reconfigure c b) (Err fault.Unsupported)
reconfigure-reads c b n = record { read = tt; only = λ said k. absurd k.says; refused = refl; refuses = faults; numbers = tt }
  where
    faults : (f : SideFault) → Misread (message kind.Reconfigure c b) f → IsFault f (unsaid fault.Unsupported)
    faults fault.BadNumber k = absurd (let z = k in cc)
    faults fault.Unsupported k = refl
    faults (fault.BadPayload what) k = absurd (let z = k.reads in cc)
    faults fault.NotText k = absurd (let z = k.error in cc)
    faults fault.Finished k = absurd k
    faults fault.TooManyOpen k = absurd k
    faults fault.OutOfMemory k = absurd k

-- a message whose value was read has no fault
sound_value : (k : Kind) (c : ℕ) (b : List ℕ) (v : Value) (w : Word) → is_unnumbered (message k c b) ≡ false → (k ≡ kind.Reconfigure → ⊥) → (k ≡ kind.CloseError → ⊥) → ValueReads b (Ok v)
    → (f : SideFault) → Misread (message k c b) f → IsFault f (Ok w)
sound_value k c b v w n u e h fault.BadNumber m = let z = m in cc
sound_value k c b v w n u e h fault.Unsupported m = u m
sound_value k c b v w n u e h (fault.BadPayload what) m = h.refuses m.at what m.first
sound_value k c b v w n u e h fault.NotText m = e m.error
sound_value k c b v w n u e h fault.Finished m = m
sound_value k c b v w n u e h fault.TooManyOpen m = m
sound_value k c b v w n u e h fault.OutOfMemory m = m

-- the numbers of a value that was read, and its channel's
value_small : (c : ℕ) (b : List ℕ) (v : Value) → c ≤ 2147483647 → ValueReads b (Ok v) → (n : ℕ) → is_in n (channels (view v) ++ c ∷ []) ≡ true → n ≤ 2147483647
value_small c b v s h = both_small (channels (view v)) (c ∷ []) (payload_small (view v) b h.read) (one_small c s)

-- a value was read
pub exec-reads : (c : ℕ) (b : List ℕ) (v : Value) → c ≤ 2147483647 → is_unnumbered (message kind.Exec c b) ≡ false → ValueReads b (Ok v) → MessageReads (message kind.Exec c b) (Ok (word.Exec c v))
exec-reads c b v s n h = record {
  read = record { numbered = n; says = (view v, h.read, refl) };
  only = λ said k. let e : view v ≡ k.says.0 = h.only k.says.0 k.says.1 in k.says.2 ∙ ap (Exec c) (sym e);
  refused = tt;
  refuses = sound_value kind.Exec c b v (word.Exec c v) n (λ e. cc) (λ e. cc) h;
  numbers = value_small c b v s h;
}

pub item-reads : (c : ℕ) (b : List ℕ) (v : Value) → c ≤ 2147483647 → is_unnumbered (message kind.Item c b) ≡ false → ValueReads b (Ok v) → MessageReads (message kind.Item c b) (Ok (word.Data c v))
item-reads c b v s n h = record {
  read = record { numbered = n; says = (view v, h.read, refl) };
  only = λ said k. let e : view v ≡ k.says.0 = h.only k.says.0 k.says.1 in k.says.2 ∙ ap (Data c) (sym e);
  refused = tt;
  refuses = sound_value kind.Item c b v (word.Data c v) n (λ e. cc) (λ e. cc) h;
  numbers = value_small c b v s h;
}

pub error-reads : (c : ℕ) (b : List ℕ) (cs : List ℕ) → c ≤ 2147483647 → is_unnumbered (message kind.CloseError c b) ≡ false → TextReads b (Ok cs) → MessageReads (message kind.CloseError c b) (Ok (word.Close c (Some cs)))
error-reads c b cs s n h = record {
  read = record { numbered = n; says = (cs, h.read, refl) };
  only = λ said k. let e : cs ≡ k.says.0 = h.only k.says.0 k.says.1 in k.says.2 ∙ ap (λ (t : List ℕ). Close c (Some t)) (sym e);
  refused = tt;
  refuses = faults;
  numbers = one_small c s;
}
  where
    faults : (f : SideFault) → Misread (message kind.CloseError c b) f → IsFault f (Ok (word.Close c (Some cs)))
    faults fault.BadNumber k = let z = k in cc
    faults fault.Unsupported k = let z = k in cc
    faults (fault.BadPayload what) k = h.refuses k.at what k.first
    faults fault.NotText k = h.others k.value k.payload k.other
    faults fault.Finished k = k
    faults fault.TooManyOpen k = k
    faults fault.OutOfMemory k = k

-- a payload that has no value
value_refuses : (k : Kind) (c : ℕ) (b : List ℕ) (f : SideFault) → is_unnumbered (message k c b) ≡ false → (k ≡ kind.Reconfigure → ⊥) → (k ≡ kind.CloseError → ⊥) → ValueReads b (Err f) → (g : SideFault) → Misread (message k c b) g → IsFault g (unsaid f)
value_refuses k c b f n u t h fault.BadNumber q = absurd (let z = q in cc)
value_refuses k c b f n u t h fault.Unsupported q = absurd (u q)
value_refuses k c b (fault.BadPayload w) n u t h (fault.BadPayload what) q = h.refuses q.at what q.first
value_refuses k c b fault.OutOfMemory n u t h (fault.BadPayload what) q = tt
value_refuses k c b fault.Finished n u t h (fault.BadPayload what) q = absurd h.refused
value_refuses k c b fault.BadNumber n u t h (fault.BadPayload what) q = absurd h.refused
value_refuses k c b fault.Unsupported n u t h (fault.BadPayload what) q = absurd h.refused
value_refuses k c b fault.NotText n u t h (fault.BadPayload what) q = absurd h.refused
value_refuses k c b fault.TooManyOpen n u t h (fault.BadPayload what) q = absurd h.refused
value_refuses k c b f n u t h fault.NotText q = absurd (t q.error)
value_refuses k c b f n u t h fault.Finished q = absurd q
value_refuses k c b f n u t h fault.TooManyOpen q = absurd q
value_refuses k c b f n u t h fault.OutOfMemory q = absurd q

unread_is : (k : Kind) (c : ℕ) (b : List ℕ) (f : SideFault) → is_unnumbered (message k c b) ≡ false → is_read k ≡ true → ValueReads b (Err f) → IsMisread (message k c b) f
unread_is k c b (fault.BadPayload what) n r h = record { numbered = n; reads = r; at = h.refused.0; first = h.refused.1 }
unread_is k c b fault.OutOfMemory n r h = tt
unread_is k c b fault.Finished n r h = absurd h.refused
unread_is k c b fault.BadNumber n r h = absurd h.refused
unread_is k c b fault.Unsupported n r h = absurd h.refused
unread_is k c b fault.NotText n r h = absurd h.refused
unread_is k c b fault.TooManyOpen n r h = absurd h.refused

pub exec-unread : (c : ℕ) (b : List ℕ) (f : SideFault) → is_unnumbered (message kind.Exec c b) ≡ false → ValueReads b (Err f) → MessageReads (message kind.Exec c b) (Err f)
exec-unread c b f n h = record { read = tt; only = λ said k. h.only k.says.0 k.says.1; refused = unread_is kind.Exec c b f n refl h; refuses = value_refuses kind.Exec c b f n (λ e. cc) (λ e. cc) h; numbers = tt }

pub item-unread : (c : ℕ) (b : List ℕ) (f : SideFault) → is_unnumbered (message kind.Item c b) ≡ false → ValueReads b (Err f) → MessageReads (message kind.Item c b) (Err f)
item-unread c b f n h = record { read = tt; only = λ said k. h.only k.says.0 k.says.1; refused = unread_is kind.Item c b f n refl h; refuses = value_refuses kind.Item c b f n (λ e. cc) (λ e. cc) h; numbers = tt }

same_fault : (f g : SideFault) → IsFault g (unwritten f) → IsFault g (unsaid f)
same_fault fault.OutOfMemory g k = tt
same_fault fault.Finished g k = k
same_fault fault.BadNumber g k = k
same_fault fault.Unsupported g k = k
same_fault (fault.BadPayload what) g k = k
same_fault fault.NotText g k = k
same_fault fault.TooManyOpen g k = k

pub error-unread : (c : ℕ) (b : List ℕ) (f : SideFault) → is_unnumbered (message kind.CloseError c b) ≡ false → TextReads b (Err f) → MessageReads (message kind.CloseError c b) (Err f)
error-unread c b f n h = record { read = tt; only = λ said k. h.only k.says.0 k.says.1; refused = is_misread f h; refuses = refuses f h; numbers = tt }
  where
    is_misread : (f : SideFault) → TextReads b (Err f) → IsMisread (message kind.CloseError c b) f
    is_misread (fault.BadPayload what) h = record { numbered = n; reads = refl; at = h.refused.0; first = h.refused.1 }
    is_misread fault.NotText h = record { numbered = n; error = refl; value = h.refused.0; payload = h.refused.1; other = h.refused.2 }
    is_misread fault.OutOfMemory h = tt
    is_misread fault.Finished h = absurd h.refused
    is_misread fault.BadNumber h = absurd h.refused
    is_misread fault.Unsupported h = absurd h.refused
    is_misread fault.TooManyOpen h = absurd h.refused

    refuses : (f : SideFault) → TextReads b (Err f) → (g : SideFault) → Misread (message kind.CloseError c b) g → IsFault g (unsaid f)
    refuses f h fault.BadNumber q = absurd (let z = q in cc)
    refuses f h fault.Unsupported q = absurd (let z = q in cc)
    refuses f h (fault.BadPayload what) q = same_fault f (fault.BadPayload what) (h.refuses q.at what q.first)
    refuses f h fault.NotText q = same_fault f fault.NotText (h.others q.value q.payload q.other)
    refuses f h fault.Finished q = absurd q
    refuses f h fault.TooManyOpen q = absurd q
    refuses f h fault.OutOfMemory q = absurd q
