-- What a controller hears of a worker that runs tests.
use Rattle.std.proofs.Common.{◌≡◌, ℕ, ◌+◌, ◌<◌, ◌≤◌, List, [], ◌∷◌, ◌++◌, length, Bool, true, false, ◌&&◌, Option, Some, None, refl, ap, sym, subst, ◌∙◌, arith}
use Rattle.std.specs.Prelude.{◌==◌, ◌||◌, ◌%◌, option_to_list, if◌then◌else◌}
use Rattle.std.proofs.lemmas.Bool.Decides.{nat_tests}
use Rattle.xd_value.specs.Canonical.{canonical}
use Rattle.xd_value.specs.Channels.{channels}
use Rattle.xd_value.specs.Payload.{IsPayload}
use Rattle.xd_value.specs.Tree.{Tree, bytes}
use Rattle.xd_channel.specs.declared.end.End.TheVariants as end
use Rattle.xd_frame.specs.Message.{MessageView}
use Rattle.xd_factory.specs.declared.parity.Parity.{Parity}
use Rattle.xd_factory.specs.declared.parity.Parity.TheVariants.{Odd}
use Rattle.xd_factory.specs.declared.taken.Taken.TheVariants as taken
use Rattle.xd_factory.specs.Numbers.{is_mine}
use Rattle.xd_factory.specs.Said.{Said as Word, Data, Close, Means, names_of}
use Rattle.xd_factory.specs.SideTable.{ChannelTable, answer, changed_at, heard_of_message}
use Rattle.xd_factory.specs.Slot.{Gone, hooked_slot, is_new}
use Rattle.xd_factory.specs.Table.{heard_slot}
use Rattle.xd_journal.specs.declared.news.What.{What}
use Rattle.xd_journal.specs.declared.news.What.TheVariants as what
use Rattle.xd_commands.specs.Events.{tree_event}
use Rattle.xd_gateway.specs.Calls.{item_message}
use Rattle.xd_gateway.specs.News.{AreHeard, Heard, IsNewsOf, Said, all_messages, all_news, close_of, ear_after, event_or_stray, is_finish, log_hooked, news_by, piece_or_stray}
use Rattle.xd_worker_tests.specs.Line.{number_of_log}
use Rattle.xd_system_messages.proofs.Slots.{close_at, close_handed, item_handed, item_keeps, log_is_hooked, opened_few, start_opens}
use Rattle.xd_system_messages.proofs.Tables.{Channels, closes, counts, ends, few, last_log, last_not_one, numbers_of, opens, stay}

-- The controller heard these messages as these news: n logs opened, the last may be open, and the function of the call
-- may be over, or have said that it has finished.
pub record Ears (over finished : Bool) (n : ℕ) (o : Bool) (says : List MessageView) (news : List What) : Type 0 where
  pub heard : List Heard
  pub are : AreHeard heard
  pub messages_are : all_messages heard ≡ says
  pub news_are : all_news heard ≡ news
  pub channels_are : Channels true over n o (ear_after heard).table.slot
  pub parity_is : (ear_after heard).table.parity ≡ Odd
  pub good : (ear_after heard).failed ≡ false
  pub finished_is : (ear_after heard).finished ≡ finished

-- that is what they mean
pub mean : (over finished : Bool) (n : ℕ) (o : Bool) (says : List MessageView) (news : List What) → Ears over finished n o says news → IsNewsOf says news
mean over finished n o says news e = record { heard = e.heard; are = e.are; messages_are = e.messages_are; news_are = e.news_are }

hooked_parity_at : (b : Bool) (t : ChannelTable) (log : ℕ) → (if b then changed_at log hooked_slot t else t).parity ≡ t.parity
hooked_parity_at true t log = refl
hooked_parity_at false t log = refl

hooked_parity : (news : Option What) (t : ChannelTable) → (log_hooked news t).parity ≡ t.parity
hooked_parity None t = refl
hooked_parity (Some what.Ready) t = refl
hooked_parity (Some (what.Collected ids)) t = refl
hooked_parity (Some (what.LogStart n log)) t = hooked_parity_at (log % 2 == 0) t log
hooked_parity (Some (what.Piece log b)) t = refl
hooked_parity (Some (what.LogClosed log)) t = refl
hooked_parity (Some (what.Done n outcome ms)) t = refl
hooked_parity (Some (what.Back ns)) t = refl
hooked_parity (Some what.Finished) t = refl
hooked_parity (Some (what.Closed text)) t = refl
hooked_parity (Some what.Stray) t = refl
hooked_parity (Some (what.Gone cause)) t = refl
hooked_parity (Some what.NotStarted) t = refl

-- a log has the number of a channel
pub last_numbered : (n : ℕ) → 0 < n → ((last_log n == 0) && true) ≡ false
last_numbered n h = grind (arith, nat_tests)

module _ (over finished : Bool) (n : ℕ) (o : Bool) (says : List MessageView) (news : List What) (e : Ears over finished n o says news) where
  abbrev table : ChannelTable
  table = (ear_after e.heard).table

  -- one message more, which is this news or none
  hears : (m : MessageView) (said : Word) (x : Option What) (over2 : Bool) (n2 : ℕ) (o2 : Bool) → Means m said → length (names_of said) ≤ 2
      → news_by finished (answer said table) ≡ x → Channels true over2 n2 o2 (log_hooked x (heard_of_message said table)).slot
      → Ears over2 (finished || is_finish x) n2 o2 (says ++ m ∷ []) (news ++ option_to_list x)
  hears m said x over2 n2 o2 means short gives then_ =
      let is : news_by (ear_after e.heard).finished (answer said table) ≡ x = ap (λ (b : Bool). news_by b (answer said table)) e.finished_is ∙ gives in
      let k = length (numbers_of over n o) in
      let few_new = opened_few (λ c. is_new (is_mine table.parity c) (table.slot c)) (names_of said) in
      record {
        heard = record { message = m; came = Said said } ∷ e.heard;
        are = (e.are, record { good = e.good; means = means; room = (k, counts true over n o table.slot e.channels_are, omega (arith, few over n o, few_new, short)) });
        messages_are = ap (λ (ms : List MessageView). ms ++ m ∷ []) e.messages_are;
        news_are = ap (λ (l : List What). l ++ option_to_list (news_by (ear_after e.heard).finished (answer said table))) e.news_are ∙ ap (λ (w : Option What). news ++ option_to_list w) is;
        channels_are = subst (λ (w : Option What). Channels true over2 n2 o2 (log_hooked w (heard_of_message said table)).slot) (sym is) then_;
        parity_is = hooked_parity (news_by (ear_after e.heard).finished (answer said table)) (heard_of_message said table) ∙ e.parity_is;
        good = refl;
        finished_is = ap (λ (b : Bool). b || is_finish (news_by (ear_after e.heard).finished (answer said table))) e.finished_is ∙ ap (λ (w : Option What). finished || is_finish w) is;
      }

  -- an event, which opens no log
  pub hears_event : (v : Tree) (b : List ℕ) (x : What) → over ≡ false → IsPayload v b → tree_event v ≡ Some x → channels v ≡ [] → ((t : ChannelTable) → log_hooked (Some x) t ≡ t)
      → Ears over (finished || is_finish (Some x)) n o (says ++ item_message 1 b ∷ []) (news ++ x ∷ [])
  hears_event v b x goes payload read none plain =
      let here = e.channels_are.one goes in
      hears (item_message 1 b) (Data 1 v) (Some x) over n o (record { numbered = refl; says = (v, payload, refl) }) (subst (λ (ns : List ℕ). length (ns ++ 1 ∷ []) ≤ 2) (sym none) (omega arith))
      (ap (news_by finished) (item_handed table.parity 1 v table.slot here) ∙ ap Some (by_read read))
      (stay true over n o table.slot _ (λ c. ap (λ (t : ChannelTable). t.slot c) (plain (heard_of_message (Data 1 v) table)) ∙ item_keeps table.parity 1 v table.slot c none here) e.channels_are)
    where
      by_read : tree_event v ≡ Some x → event_or_stray v ≡ x
      by_read q = rw q refl

  -- the start of the next log
  pub hears_start : (v : Tree) (b : List ℕ) (test : ℕ) → over ≡ false → o ≡ false → IsPayload v b → tree_event v ≡ Some (what.LogStart test (number_of_log n)) → channels v ≡ number_of_log n ∷ []
      → Ears false (finished || false) (n + 1) true (says ++ item_message 1 b ∷ []) (news ++ what.LogStart test (number_of_log n) ∷ [])
  hears_start v b test goes shut payload read names =
      let here = e.channels_are.one goes in
      let log = number_of_log n in
      let x = what.LogStart test log in
      hears (item_message 1 b) (Data 1 v) (Some x) false (n + 1) true (record { numbered = refl; says = (v, payload, refl) }) (subst (λ (ns : List ℕ). length (ns ++ 1 ∷ []) ≤ 2) (sym names) (omega arith))
      (ap (news_by finished) (item_handed table.parity 1 v table.slot here) ∙ ap Some (by_read read))
      (opens true n table.slot _ (λ c. hooked c ∙ start_opens n v table.slot c names here (e.channels_are.new n (omega arith))) (subst (λ (q : Bool). Channels true q n false table.slot) goes (subst (λ (q : Bool). Channels true over n q table.slot) shut e.channels_are)))
    where
      by_read : tree_event v ≡ Some (what.LogStart test (number_of_log n)) → event_or_stray v ≡ what.LogStart test (number_of_log n)
      by_read q = rw q refl

      hooked : (c : ℕ) → (log_hooked (Some (what.LogStart test (number_of_log n))) (heard_of_message (Data 1 v) table)).slot c
          ≡ (if number_of_log n == c then hooked_slot (heard_slot Odd (Data 1 v) c (table.slot c)) else heard_slot Odd (Data 1 v) c (table.slot c))
      hooked c =
          ap (λ (q : Bool). (if q then changed_at (number_of_log n) hooked_slot (heard_of_message (Data 1 v) table) else heard_of_message (Data 1 v) table).slot c) (log_is_hooked n)
          ∙ ap (λ (p : Parity). if number_of_log n == c then hooked_slot (heard_slot p (Data 1 v) c (table.slot c)) else heard_slot p (Data 1 v) c (table.slot c)) e.parity_is

  -- output on the log that is open
  pub hears_piece : (b : List ℕ) → o ≡ true → IsPayload (bytes b) (canonical (bytes b))
      → Ears over (finished || false) n o (says ++ item_message (last_log n) (canonical (bytes b)) ∷ []) (news ++ what.Piece (last_log n) b ∷ [])
  hears_piece b runs payload =
      let here = e.channels_are.log runs in
      let k = last_log n in
      let apart = last_not_one n (e.channels_are.begun runs) in
      hears (item_message k (canonical (bytes b))) (Data k (bytes b)) (Some (what.Piece k b)) over n o (record { numbered = last_numbered n (e.channels_are.begun runs); says = (bytes b, payload, refl) }) (omega arith)
      (ap (news_by finished) (item_handed table.parity k (bytes b) table.slot here) ∙ ap (λ (q : Bool). Some (if q then event_or_stray (bytes b) else piece_or_stray k (bytes b))) apart)
      (stay true over n o table.slot _ (λ c. item_keeps table.parity k (bytes b) table.slot c refl here) e.channels_are)

  -- the close of that log
  pub hears_close : (m : MessageView) → over ≡ false → o ≡ true → Means m (Close (last_log n) None)
      → Ears false (finished || false) n false (says ++ m ∷ []) (news ++ what.LogClosed (last_log n) ∷ [])
  hears_close m goes runs means =
      let here = e.channels_are.log runs in
      let k = last_log n in
      let apart = last_not_one n (e.channels_are.begun runs) in
      hears m (Close k None) (Some (what.LogClosed k)) false n false means (omega arith)
      (ap (news_by finished) (close_handed table.parity k None table.slot here) ∙ ap (λ (q : Bool). if q then close_of finished end.Closed else Some (what.LogClosed k)) apart)
      (closes true n table.slot _ (λ c. close_at table.parity k None table.slot c here) (subst (λ (q : Bool). Channels true q n true table.slot) goes (subst (λ (q : Bool). Channels true over n q table.slot) runs e.channels_are)))

  -- the end of the function, after it said that it has finished
  pub hears_finish : (m : MessageView) → over ≡ false → o ≡ false → finished ≡ true → Means m (Close 1 None) → Ears true true n false (says ++ m ∷ []) news
  hears_finish m goes shut done means =
      let here = e.channels_are.one goes in
      let next = hears m (Close 1 None) None true n false means (omega arith)
      (ap (news_by finished) (close_handed table.parity 1 None table.slot here) ∙ ap (λ (q : Bool). close_of q end.Closed) done)
      (ends true n table.slot _ (λ c. close_at table.parity 1 None table.slot c here) (subst (λ (q : Bool). Channels true q n false table.slot) goes (subst (λ (q : Bool). Channels true over n q table.slot) shut e.channels_are))) in
      subst (λ (q : Bool). Ears true q n false (says ++ m ∷ []) news) (either finished done) (subst (λ (l : List What). Ears true (finished || false) n false (says ++ m ∷ []) l) (no_more news) next)
    where
      either : (q : Bool) → q ≡ true → (q || false) ≡ true
      either q h = rw h refl

      no_more : (l : List What) → l ++ [] ≡ l
      no_more [] = refl
      no_more (x ∷ l) = ap (λ (k : List What). x ∷ k) (no_more l)

  -- the end of the function with an error
  pub hears_error : (m : MessageView) (text : List ℕ) → over ≡ false → o ≡ false → finished ≡ false → Means m (Close 1 (Some text))
      → Ears true false n false (says ++ m ∷ []) (news ++ what.Closed (Some text) ∷ [])
  hears_error m text goes shut not_done means =
      let here = e.channels_are.one goes in
      let next = hears m (Close 1 (Some text)) (Some (what.Closed (Some text))) true n false means (omega arith)
      (ap (news_by finished) (close_handed table.parity 1 (Some text) table.slot here) ∙ ap (λ (q : Bool). close_of q (end.Error text)) not_done)
      (ends true n table.slot _ (λ c. close_at table.parity 1 (Some text) table.slot c here) (subst (λ (q : Bool). Channels true q n false table.slot) goes (subst (λ (q : Bool). Channels true over n q table.slot) shut e.channels_are))) in
      subst (λ (q : Bool). Ears true q n false (says ++ m ∷ []) (news ++ what.Closed (Some text) ∷ [])) (neither finished not_done) next
    where
      neither : (q : Bool) → q ≡ false → (q || false) ≡ false
      neither q h = rw h refl
