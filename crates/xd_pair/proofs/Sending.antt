-- The messages that a side says are the words that the move says.
use Rattle.std.proofs.Common.{◌≡◌, ℕ, ◌≤◌, List, [], ◌∷◌, ◌++◌, length, Bool, true, false, Option, Some, None, Result, Ok, Err, refl, sym, ap, subst, arith}
use Rattle.std.specs.Prelude.{◌==◌, nat_lt, if◌then◌else◌}
use Rattle.std.specs.Option.{option_to_list}
use Rattle.std.proofs.lemmas.Bool.Decides.{nat_tests}
use Rattle.std.proofs.lemmas.Grind.{common_steps}
use Rattle.xd_value.specs.Tree.{Tree, text}
use Rattle.xd_value.specs.Payload.{IsPayload}
use Rattle.xd_value.specs.Canonical.{canonical, dumped}
use Rattle.xd_value.specs.declared.writing.DumpFault.{DumpFault}
use Rattle.xd_channel.specs.State.{close_gives, give_up_gives}
use Rattle.xd_channel.specs.declared.answers.Closing.{Closing}
use Rattle.xd_channel.specs.declared.answers.Closing.TheVariants as closing
use Rattle.xd_channel.specs.declared.answers.GivenUp.{GivenUp}
use Rattle.xd_channel.specs.declared.answers.GivenUp.TheVariants as given_up
use Rattle.xd_frame.specs.declared.kind.Kind.TheVariants as kind
use Rattle.xd_frame.specs.Message.{MessageView}
use Rattle.xd_factory.specs.Slot.{Slot, Unseen, Here, Gone, is_seen, give_up_says}
use Rattle.xd_factory.specs.Said.{Said, Exec, Data, Close, Means}
use Rattle.xd_factory.specs.Table.{is_long, HasErrorPayload, close_refusal, closing_message, closing_says, close_says, giving_says, send_refusal, sent_gives}
use Rattle.xd_factory.specs.declared.faults.SendFault.{SendFault}
use Rattle.xd_factory.specs.declared.faults.SendFault.TheVariants as send
use Rattle.xd_pair.specs.Part as part
use Rattle.xd_pair.specs.Messages.{AllMean, AddsMessages}
use Rattle.xd_pair.proofs.Payloads.{item_means, call_means, close_means, error_means, last_means}

pub adds_option : (old new : List MessageView) (m : Option MessageView) (words : List Said) → new ≡ old ++ option_to_list m → AllMean (option_to_list m) words → AddsMessages old new words
adds_option old new m words e k = record { more = option_to_list m; following = e; mean = k }

pub all_mean-append : (ms ns : List MessageView) (ws vs : List Said) → AllMean ms ws → AllMean ns vs → AllMean (ms ++ ns) (ws ++ vs)
all_mean-append [] ns [] vs h k = k
all_mean-append [] ns (w ∷ ws) vs h k = absurd h
all_mean-append (m ∷ ms) ns [] vs h k = absurd h
all_mean-append (m ∷ ms) ns (w ∷ ws) vs h k = (h.0, all_mean-append ms ns ws vs h.1 k)

-- what a close says
not_long : (seen long : Bool) → close_refusal seen long ≡ None → long ≡ false
not_long false long h = cc
not_long true true h = cc
not_long true false h = refl

short_text : (n : ℕ) → nat_lt 16777216 n ≡ false → n ≤ 16777216
short_text n h = grind (arith, nat_tests)

end_means : (n : ℕ) (e : Option (List ℕ)) → n == 0 ≡ false → is_long e ≡ false → HasErrorPayload e → Means (closing_message n e) (Close n e)
end_means n None h l p = close_means n h
end_means n (Some cs) h l p = error_means n cs (canonical (text cs)) h p (short_text (length (canonical (text cs))) l)

pub end_said : (n : ℕ) (e : Option (List ℕ)) (s : Slot Tree) → (is_seen s ≡ true → n == 0 ≡ false) → close_refusal (is_seen s) (is_long e) ≡ None → HasErrorPayload e → AllMean (closing_message n e ∷ []) (part.function_end_words n e s)
end_said n e Unseen h l p = absurd (let z = l in cc)
end_said n e (Here s) h l p = (end_means n e (h refl) (not_long true (is_long e) l) p, tt)
end_said n e Gone h l p = (end_means n e (h refl) (not_long true (is_long e) l) p, tt)

close_by : (n : ℕ) (e : Option (List ℕ)) (x : Closing) → Means (closing_message n e) (Close n e) → AllMean (option_to_list (closing_says n e x)) (part.closing_words n e x)
close_by n e closing.Say m = (m, tt)
close_by n e closing.Nothing m = tt

pub close_said : (n : ℕ) (e : Option (List ℕ)) (s : Slot Tree) → (is_seen s ≡ true → n == 0 ≡ false) → close_refusal (is_seen s) (is_long e) ≡ None → HasErrorPayload e → AllMean (option_to_list (close_says n e s)) (part.close_words n e s)
close_said n e Unseen h l p = tt
close_said n e Gone h l p = tt
close_said n e (Here s) h l p = close_by n e (close_gives s) (end_means n e (h refl) (not_long true (is_long e) l) p)

-- what letting go says
give_up_by : (n : ℕ) (x : GivenUp) → n == 0 ≡ false → AllMean (option_to_list (giving_says n x)) (part.giving_words n x)
give_up_by n given_up.Nothing h = tt
give_up_by n given_up.SayClose h = (close_means n h, tt)
give_up_by n given_up.SayLast h = (last_means n h, tt)

pub give_up_said : (n : ℕ) (s : Slot Tree) → (is_seen s ≡ true → n == 0 ≡ false) → AllMean (option_to_list (giving_says n (give_up_says s))) (part.give_up_words n s)
give_up_said n Unseen h = tt
give_up_said n Gone h = tt
give_up_said n (Here s) h = give_up_by n (give_up_gives s) (h refl)

-- what a value is sent as
pub dumped_is : (t : Tree) (b : List ℕ) → dumped t ≡ Ok b → (b ≡ canonical t) × (length b ≤ 16777216)
unfolding dumped
dumped_is t b h = (grind (arith, nat_tests, common_steps), grind (arith, nat_tests, common_steps))

pub item_said : (n : ℕ) (v : Tree) (b : List ℕ) → n == 0 ≡ false → IsPayload v b → dumped v ≡ Ok b → Means (record { kind = kind.Item; channel = n; payload = b }) (Data n v)
item_said n v b h p d = let e = dumped_is v b d in
    subst (λ (x : List ℕ). Means (record { kind = kind.Item; channel = n; payload = x }) (Data n v)) (sym e.0)
    (item_means n v b h p (subst (λ (x : List ℕ). length x ≤ 16777216) e.0 e.1))

pub call_said : (n : ℕ) (v : Tree) (b : List ℕ) → n == 0 ≡ false → IsPayload v b → dumped v ≡ Ok b → Means (record { kind = kind.Exec; channel = n; payload = b }) (Exec n v)
call_said n v b h p d = let e = dumped_is v b d in
    subst (λ (x : List ℕ). Means (record { kind = kind.Exec; channel = n; payload = x }) (Exec n v)) (sym e.0)
    (call_means n v b h p (subst (λ (x : List ℕ). length x ≤ 16777216) e.0 e.1))

-- what the answer of a send says of the slot and the payload
pub gives_parts : (f : Option SendFault) (r : Result (List ℕ) DumpFault) (b : List ℕ) → sent_gives f r ≡ Ok b → (f ≡ None) × (r ≡ Ok b)
gives_parts (Some f) r b h = absurd (let z = h in cc)
gives_parts None (Ok x) b h = let e : x ≡ b = cc in (refl, ap Ok e)
gives_parts None (Err f) b h = absurd (let z = h in cc)

may_by : (s : Slot Tree) → send_refusal s ≡ None → part.may_send s ≡ true
may_by Unseen h = cc
may_by Gone h = cc
may_by (Here s) h = by_test s.sending h
  where
    by_test : (b : Bool) → (if b then None else Some send.SendClosed) ≡ None → b ≡ true
    by_test true h = refl
    by_test false h = cc

pub sent_parts : (s : Slot Tree) (v : Tree) (b : List ℕ) → sent_gives (send_refusal s) (dumped v) ≡ Ok b → (part.may_send s ≡ true) × (dumped v ≡ Ok b)
sent_parts s v b h = let p = gives_parts (send_refusal s) (dumped v) b h in (may_by s p.0, p.1)
