-- Senders that load one after the other.
use Rattle.std.proofs.Common.{◌≡◌, ◌≢◌, ℕ, zero, suc, ◌+◌, ◌%◌, ◌<◌, ◌≤◌, Bool, true, false, if◌then◌else◌, List, [], ◌∷◌, length, take, drop, slice_get, Some, AllPairs, ◌==◌, ◌⊎◌, inl, inr, refl, sym, ◌∙◌, ap, subst, arith, length-append}
use Rattle.std.specs.List.{AllZip}
use Rattle.std.proofs.lemmas.Bool.{cases_Bool, eq-eqb, ne_eqb, eqb-true}
use Rattle.std.proofs.lemmas.List.{length-take, length-drop}
use Rattle.std.proofs.lemmas.List.Sums.{sum_by-cons}
use Rattle.std.proofs.lemmas.Option.{same_Some, slice_get_within, get_or_from_slice_get}
use Rattle.irt_base.proofs.WordLaws.{length-bytes_of}
use Rattle.irt_base.specs.Cycle.{IsDue}
use Rattle.irt_base.specs.Valid.{IsEntry}
use Rattle.irt_base.specs.Words.{bytes_of}
use Rattle.irt_base.specs.declared.blocks.Entry.{Entry}
use Rattle.irt_switch.specs.Release.{is_due}
use Rattle.irt_switch.proofs.Finding.{AreAscending, tail_up}
use Rattle.iso_rules.specs.Station.{data_words, words_in, part_of}
use Rattle.iso_station.specs.Kept.{IsWhole}
use Rattle.iso_station.specs.Provider.{ProviderState, sent_frame, HasPlace, IsProvided, IsLoaded}
use Rattle.rtc3_frame.specs.Frame.{frame_bytes, sent_fields, tail_bytes}
use Rattle.rtc3_frame.specs.declared.frame.TheConstants.{HEAD, TAIL}
use Rattle.plant_stations.specs.Loaded.{AreWords, AreReady, IsSent, AreLikeLong, AreSent}
use Rattle.plant_stations.specs.declared.sender.Sender.{Sender}
use Rattle.plant_stations.proofs.Lists.{in_or_not, one_place, zip_at, zip_map, some_at}

-- ---- how long things are

pub length-sent : (frame device : ℕ) (csdu : List ℕ) (counter status : ℕ) →
    length (frame_bytes (sent_fields frame device csdu counter status)) ≡ length csdu + (HEAD + TAIL)
length-sent frame device csdu counter status = omega (arith, length-append csdu (tail_bytes counter status))

rest_words : (x : Entry) (es : List Entry) (words : List ℕ) → length words ≡ words_in (x ∷ es) → length (drop (data_words x) words) ≡ words_in es
rest_words x es words count = omega (arith, count, sum_by-cons data_words x es, length-drop (data_words x) words)

pub length-part : (es : List Entry) (n : ℕ) (e : Entry) (words : List ℕ) → AreAscending es → slice_get es n ≡ Some e → length words ≡ words_in es →
    length (part_of es e.frame.0 words) ≡ data_words e
length-part [] n e words up is count = absurd (cc)
length-part (x ∷ es) zero e words up is count =
    let one : x ≡ e = same_Some x e is in
    let first : (x.frame.0 == e.frame.0) ≡ true = eq-eqb x.frame.0 e.frame.0 (ap (λ (y : Entry). y.frame.0) one) in
    ap (λ (b : Bool). length (if b then take (data_words x) words else part_of es e.frame.0 (drop (data_words x) words))) first
    ∙ omega (arith, count, sum_by-cons data_words x es, length-take (data_words x) words)
    ∙ ap data_words one
length-part (x ∷ es) (suc n) e words up is count =
    let less : x.frame.0 < e.frame.0 =
    subst (λ (y : Entry). x.frame.0 < y.frame.0) (get_or_from_slice_get es n e e is)
    (up 0 (suc n) e (omega arith) (let within = slice_get_within es n e is in omega arith)) in
    let later : (x.frame.0 == e.frame.0) ≡ false = ne_eqb x.frame.0 e.frame.0 (λ same. omega (arith, less, same)) in
    ap (λ (b : Bool). length (if b then take (data_words x) words else part_of es e.frame.0 (drop (data_words x) words))) later
    ∙ length-part es n e (drop (data_words x) words) (tail_up x es up) is (rest_words x es words count)

-- the frame of an entry with all its words is as long as its room
pub sent_long : (p : ProviderState) (k : ℕ) (e : Entry) (words : List ℕ) → IsEntry e → length words ≡ data_words e →
    length (sent_frame p k e words) ≡ e.data_length + (HEAD + TAIL)
sent_long p k e words valid count =
    let whole = valid.length.1 in
    let bytes : length (bytes_of words) ≡ e.data_length = omega (arith, length-bytes_of words, count, whole) in
    length-sent e.frame.0 p.device (bytes_of words) _ _ ∙ ap (λ n. n + (HEAD + TAIL)) bytes

pub entry_valid : (es : List Entry) (n : ℕ) (e : Entry) → IsWhole es → slice_get es n ≡ Some e → IsEntry e
entry_valid es n e whole is =
    subst IsEntry (get_or_from_slice_get es n e e is) (whole.valid n e (slice_get_within es n e is))

-- ---- one sender

module _ (p : ProviderState) (k : ℕ) (words places : List ℕ) (old new : List (List ℕ)) (whole : IsWhole p.entries)
    (count : length words ≡ words_in p.entries) (fits : AllZip (HasPlace old) p.entries places) (apart : AllPairs (λ (a b : ℕ). a ≢ b) places)
    (loaded : IsLoaded p k words places old new) where
  same_entry : (n place : ℕ) (e d : Entry) → slice_get p.entries n ≡ Some e → slice_get places n ≡ Some place → IsProvided p places d place → e ≡ d
  same_entry n place e d stands at by =
      let one : by.number ≡ n = one_place places by.number n place apart by.at at in
      same_Some e d (sym stands ∙ ap (slice_get p.entries) (sym one) ∙ by.stands)

  at_place : (place n : ℕ) (a b : List ℕ) → slice_get places n ≡ Some place → slice_get old place ≡ Some a → slice_get new place ≡ Some b →
      length b ≡ length a
  at_place place n a b at before after =
      let (e, stands, room) = zip_at (HasPlace old) p.entries places n place fits at in
      elim (cases_Bool (is_due k e)) [
        | inl so ↦
            let wrote = loaded.due e place (record { number = n; stands = stands; at = at }) (eqb-true (k % e.ratio + 1) e.phase so) in
            let is : sent_frame p k e (part_of p.entries e.frame.0 words) ≡ b = same_Some _ b (sym wrote ∙ after) in
            let was : room.bytes ≡ a = same_Some room.bytes a (sym room.stands ∙ before) in
            ap length (sym is)
            ∙ sent_long p k e (part_of p.entries e.frame.0 words) (entry_valid p.entries n e whole stands) (length-part p.entries n e words whole.order stands count)
            ∙ sym room.count ∙ ap length was
        | inr not ↦
            let kept = loaded.other place (λ d by due.
            let now : true ≡ false = sym (eq-eqb (k % e.ratio + 1) e.phase (subst (λ (x : Entry). IsDue k x.ratio x.phase) (sym (same_entry n place e d stands at by)) due)) ∙ not in absurd (cc)) in
            ap length (same_Some b a (sym after ∙ kept ∙ before))
      ]

  pub lengths_kept : AreLikeLong old new
  lengths_kept = record {
    count = loaded.count;
    each = λ place a b before after. elim (in_or_not places place) [
      | inl (n, at) ↦ at_place place n a b at before after
      | inr none ↦ ap length (same_Some b a (sym after ∙ loaded.other place (λ e by due. none by.number by.at) ∙ before))
    ];
  }

-- ---- all senders

like_itself : (frames : List (List ℕ)) → AreLikeLong frames frames
like_itself frames = record { count = refl; each = λ place a b before after. ap length (same_Some b a (sym after ∙ before)) }

pub like_more : (old mid new : List (List ℕ)) → AreLikeLong old mid → AreLikeLong mid new → AreLikeLong old new
like_more old mid new first second = record {
  count = second.count ∙ first.count;
  each = λ place a c before after.
      let within = slice_get_within new place c after in
      let count = second.count in
      let (b, there) = some_at mid place (omega (arith, within, count)) in
      second.each place b c there after ∙ first.each place a b before there;
}

pub room_kept : (old new : List (List ℕ)) (e : Entry) (place : ℕ) → AreLikeLong old new → HasPlace old e place → HasPlace new e place
room_kept old new e place like room =
    let within = slice_get_within old place room.bytes room.stands in
    let count = like.count in
    let (b, there) = some_at new place (omega (arith, within, count)) in
    record { bytes = b; stands = there; count = like.each place room.bytes b room.stands there ∙ room.count }

-- those before a number are sent
pub record AreSentTo (senders : List Sender) (k : ℕ) (outputs old frames : List (List ℕ)) (end : ℕ) : Type 0 where
  pub each : (n : ℕ) (s : Sender) (words : List ℕ) → n < end → slice_get senders n ≡ Some s → slice_get outputs n ≡ Some words → IsSent s k words frames
  pub other : (place : ℕ) → ((n : ℕ) (s : Sender) (e : Entry) → slice_get senders n ≡ Some s → IsProvided s.provider s.places e place →
      ¬ IsDue k e.ratio e.phase) → slice_get frames place ≡ slice_get old place
  pub lengths : AreLikeLong old frames

pub none_sent : (senders : List Sender) (k : ℕ) (outputs frames : List (List ℕ)) → AreSentTo senders k outputs frames frames 0
none_sent senders k outputs frames = record { each = λ n s words before. absurd (omega arith); other = λ place never. refl; lengths = like_itself frames }

pub all_sent : (senders : List Sender) (k : ℕ) (outputs old frames : List (List ℕ)) (end : ℕ) → length senders ≤ end →
    AreSentTo senders k outputs old frames end → AreSent senders k outputs old frames
all_sent senders k outputs old frames end past to = record {
  each = λ n s words is told. to.each n s words (let within = slice_get_within senders n s is in omega (arith, within, past)) is told;
  other = to.other;
  lengths = to.lengths;
}

pub fits_now : (senders : List Sender) (k : ℕ) (outputs old frames : List (List ℕ)) (i : ℕ) (s : Sender) → AreReady senders outputs old →
    AreSentTo senders k outputs old frames i → slice_get senders i ≡ Some s → AllZip (HasPlace frames) s.provider.entries s.places
fits_now senders k outputs old frames i s ready to is =
    zip_map (HasPlace old) (HasPlace frames) s.provider.entries s.places (λ e place. room_kept old frames e place to.lengths) (ready.places i s is)

before_or_at : (n i : ℕ) → n < i + 1 → (n < i) ⊎ (n ≡ i)
before_or_at n i below = grind arith

pub sent_step : (senders : List Sender) (k : ℕ) (outputs old frames new : List (List ℕ)) (i : ℕ) (s : Sender) (words : List ℕ) → AreReady senders outputs old →
    slice_get senders i ≡ Some s → slice_get outputs i ≡ Some words → AreSentTo senders k outputs old frames i →
    IsLoaded s.provider k words s.places frames new → AreWords words → AreSentTo senders k outputs old new (i + 1)
sent_step senders k outputs old frames new i s words ready is told to loaded range = record {
  each = λ n t given below has gave. elim (before_or_at n i below) [
    | inl before ↦
        let sent = to.each n t given before has gave in
        record {
          due = λ e place by due.
              loaded.other place (λ d other soon. let one = ready.others n i t s e d place has is by other in omega (arith, one, before))
              ∙ sent.due e place by due;
          range = sent.range;
        }
    | inr now ↦
        let one : s ≡ t = same_Some s t (sym is ∙ ap (slice_get senders) (sym now) ∙ has) in
        let same : words ≡ given = same_Some words given (sym told ∙ ap (slice_get outputs) (sym now) ∙ gave) in
        subst (λ (x : Sender). IsSent x k given new) one
        (subst (λ ws. IsSent s k ws new) same (record { due = loaded.due; range = range }))
  ];
  other = λ place never. loaded.other place (λ e by. never i s e is by) ∙ to.other place never;
  lengths = like_more old frames new to.lengths
      (lengths_kept s.provider k words s.places frames new (ready.whole i s is) (ready.words i s words is told)
      (fits_now senders k outputs old frames i s ready to is) (ready.apart i s is) loaded);
}
