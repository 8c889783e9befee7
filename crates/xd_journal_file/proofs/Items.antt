-- The item that bytes begin with.
use Rattle.std.proofs.Common.{◌≡◌, ◌≢◌, ℕ, ◌+◌, ◌≤◌, List, [], ◌∷◌, ◌++◌, length, take, drop, Some, Ok, refl, sym, ap, subst, ◌∙◌, arith}
use Rattle.std.proofs.lemmas.List.{append-nil}
use Rattle.xd_frame.specs.declared.header.Header.{Header}
use Rattle.xd_frame.specs.declared.kind.Kind.TheVariants.{Item}
use Rattle.xd_frame.specs.Message.{MessageView, IsMessage, frame}
use Rattle.xd_frame.specs.Stream.{AreBytes, header_in_front, message_of, messages}
use Rattle.xd_frame.proofs.Longest.{front_frame, messages-frames}
use Rattle.xd_value.specs.Tree.{Tree}
use Rattle.xd_value.specs.Canonical.{canonical}
use Rattle.xd_journal.specs.declared.entry.Entry.{Entry}
use Rattle.xd_journal.specs.declared.settings.Settings.{Settings}
use Rattle.xd_journal_file.specs.Written.{entry_tree, settings_tree}
use Rattle.xd_journal_file.specs.FileOf.{AreWritable, IsWritable, item_with, message_of_value}
use Rattle.xd_journal_file.specs.inner.Steps.{BeginsItem, BeginsNoItem}

starts : (bytes payload following : List ℕ) → BeginsItem bytes payload following → messages bytes ≡ item_with payload ∷ messages following
starts bytes payload following h =
    let m = item_with payload in
    let is : IsMessage m = record { channel = omega arith; payload = h.short } in
    ap messages (h.parts ∙ ap (λ b. b ++ following) (sym (append-nil (frame m)))) ∙ messages-frames (m ∷ []) following (is, tt)

pub no_message : (bytes : List ℕ) → messages bytes ≡ [] → BeginsNoItem bytes
no_message bytes e payload following h = (let s = starts bytes payload following h in cc)

pub other_message : (bytes : List ℕ) (h : Header) (more : List MessageView) → messages bytes ≡ message_of h bytes ∷ more → (h.kind ≡ Item → h.channel ≡ 1 → ⊥) → BeginsNoItem bytes
other_message bytes h more e other payload following k =
    let s : message_of h bytes ∷ more ≡ item_with payload ∷ messages following = sym e ∙ starts bytes payload following k in
    let is : message_of h bytes ≡ item_with payload = cc in
    other (ap (λ (m : MessageView). m.kind) is) (ap (λ (m : MessageView). m.channel) is)

pub an_item : (bytes : List ℕ) (h : Header) (p f : List ℕ) → AreBytes bytes → header_in_front bytes ≡ Ok (Some h) → h.kind ≡ Item → h.channel ≡ 1
    → p ≡ take h.length (drop 9 bytes) → f ≡ drop (9 + h.length) bytes → BeginsItem bytes p f
an_item bytes h p f small e kind channel pe fe =
    let k = front_frame bytes h small e in
    let is : message_of h bytes ≡ item_with p = rw (kind, channel, pe) refl in
    record {
      short = subst (λ (m : MessageView). length m.payload ≤ 16777216) is k.0.payload;
      parts = k.1 ∙ (ap (λ (m : MessageView). frame m ++ drop (9 + h.length) bytes) is ∙ ap (λ b. frame (item_with p) ++ b) (sym fe));
    }

-- bytes begin with one item at most
pub one_item : (bytes p q f g : List ℕ) → BeginsItem bytes p f → BeginsItem bytes q g → p ≡ q
one_item bytes p q f g h k =
    let s : item_with p ∷ messages f ≡ item_with q ∷ messages g = sym (starts bytes p f h) ∙ starts bytes q g k in
    let is : item_with p ≡ item_with q = cc in
    ap (λ (m : MessageView). m.payload) is

-- ---- what stands there is no message of settings, or of an entry

pub no_settings_item : (bytes : List ℕ) → BeginsNoItem bytes → (s : Settings) (following : List ℕ) → AreWritable s → bytes ≢ frame (message_of_value (settings_tree s)) ++ following
no_settings_item bytes none s following w is = none (canonical (settings_tree s)) following (record { short = w.fits.short; parts = is })

pub no_entry_item : (bytes : List ℕ) → BeginsNoItem bytes → (e : Entry) (following : List ℕ) → IsWritable e → bytes ≢ frame (message_of_value (entry_tree e)) ++ following
no_entry_item bytes none e following w is = none (canonical (entry_tree e)) following (record { short = w.fits.short; parts = is })

pub no_settings_payload : (bytes p f : List ℕ) → BeginsItem bytes p f → ((s : Settings) → AreWritable s → p ≢ canonical (settings_tree s))
    → (s : Settings) (following : List ℕ) → AreWritable s → bytes ≢ frame (message_of_value (settings_tree s)) ++ following
no_settings_payload bytes p f h none s following w is = none s w (one_item bytes p (canonical (settings_tree s)) f following h (record { short = w.fits.short; parts = is }))

pub no_entry_payload : (bytes p f : List ℕ) → BeginsItem bytes p f → ((e : Entry) → IsWritable e → p ≢ canonical (entry_tree e))
    → (e : Entry) (following : List ℕ) → IsWritable e → bytes ≢ frame (message_of_value (entry_tree e)) ++ following
no_entry_payload bytes p f h none e following w is = none e w (one_item bytes p (canonical (entry_tree e)) f following h (record { short = w.fits.short; parts = is }))

-- an item with the payload of a value is its message
pub item_message : (bytes p f : List ℕ) (t : Tree) → BeginsItem bytes p f → p ≡ canonical t → bytes ≡ frame (message_of_value t) ++ f
item_message bytes p f t h e = h.parts ∙ ap (λ q. frame (item_with q) ++ f) e
