-- Frames that are written one after the other, each at its own place.
use Rattle.std.proofs.Common.{◌≡◌, ◌≢◌, ℕ, zero, suc, ◌+◌, ◌%◌, ◌<◌, ◌≤◌, Bool, true, if◌then◌else◌, List, [], ◌∷◌, length, take, drop, slice_get, Some, AllPairs, get_or, inl, inr, refl, sym, ◌∙◌, ap, subst, subst₂, arith}
use Rattle.std.specs.Prelude.{slice_set, slice_index_or}
use Rattle.std.specs.List.{AllZip}
use Rattle.std.proofs.lemmas.Bool.{cases_Bool, eq-eqb, ne_eqb, eqb-true}
use Rattle.std.proofs.lemmas.List.{length-set, length-drop, drop-drop, drop_more, drop_all, take_at}
use Rattle.std.proofs.lemmas.List.Sums.{sum_by_more, sum_by_more_le}
use Rattle.std.proofs.lemmas.Option.{same_Some, slice_get_within, get_or_from_slice_get}
use Rattle.irt_base.specs.Cycle.{IsDue}
use Rattle.irt_base.specs.declared.blocks.Entry.{Entry}
use Rattle.irt_switch.specs.Release.{is_due}
use Rattle.irt_switch.proofs.Finding.{AreAscending, tail_up}
use Rattle.iso_rules.specs.Station.{data_words, words_in, part_of}
use Rattle.iso_station.specs.Provider.{ProviderState, sent_frame, with_due, HasPlace, IsLoaded}
use Rattle.rtc3_frame.specs.Frames.{written_over}

-- ---- lists

pub set_there : {X : Type 0} (xs : List X) (i : ℕ) (x y : X) → slice_get xs i ≡ Some y → slice_get (slice_set xs i x) i ≡ Some x
set_there [] i x y is = absurd (cc)
set_there (z ∷ xs) zero x y is = refl
set_there (z ∷ xs) (suc i) x y is = set_there xs i x y is

pub set_elsewhere : {X : Type 0} (xs : List X) (i j : ℕ) (x : X) → j ≢ i → slice_get (slice_set xs i x) j ≡ slice_get xs j
set_elsewhere [] i j x apart = refl
set_elsewhere (z ∷ xs) zero zero x apart = absurd (apart refl)
set_elsewhere (z ∷ xs) zero (suc j) x apart = refl
set_elsewhere (z ∷ xs) (suc i) zero x apart = refl
set_elsewhere (z ∷ xs) (suc i) (suc j) x apart = set_elsewhere xs i j x (λ same. apart (ap suc same))

-- ---- one frame

due_from : (k : ℕ) (e : Entry) → is_due k e ≡ true → IsDue k e.ratio e.phase
due_from k e is = eqb-true ((k % e.ratio) + 1) e.phase is

pub due_to : (k : ℕ) (e : Entry) → IsDue k e.ratio e.phase → is_due k e ≡ true
due_to k e is = eq-eqb ((k % e.ratio) + 1) e.phase is

-- only its own place changes, and only where it is due
due_elsewhere : (p : ProviderState) (k : ℕ) (e : Entry) (words : List ℕ) (place : ℕ) (frames : List (List ℕ)) (other : ℕ) →
    (IsDue k e.ratio e.phase → other ≢ place) → slice_get (with_due p k e words place frames) other ≡ slice_get frames other
due_elsewhere p k e words place frames other apart =
    elim (cases_Bool (is_due k e)) [
      | inl so ↦
          ap (λ (b : Bool). slice_get (if b then slice_set frames place (sent_frame p k e words) else frames) other) so
          ∙ set_elsewhere frames place other (sent_frame p k e words) (apart (due_from k e so))
      | inr not ↦ ap (λ (b : Bool). slice_get (if b then slice_set frames place (sent_frame p k e words) else frames) other) not
    ]

length-due : (p : ProviderState) (k : ℕ) (e : Entry) (words : List ℕ) (place : ℕ) (frames : List (List ℕ)) →
    length (with_due p k e words place frames) ≡ length frames
length-due p k e words place frames =
    elim (cases_Bool (is_due k e)) [
      | inl so ↦
          ap (λ (b : Bool). length (if b then slice_set frames place (sent_frame p k e words) else frames)) so
          ∙ length-set frames place (sent_frame p k e words)
      | inr not ↦ ap (λ (b : Bool). length (if b then slice_set frames place (sent_frame p k e words) else frames)) not
    ]

-- ---- all frames

abbrev pub written : ProviderState → ℕ → List Entry → List ℕ → List ℕ → List (List ℕ) → List (List ℕ)
written p k [] places words frames = frames
written p k (e ∷ es) [] words frames = frames
written p k (e ∷ es) (place ∷ places) words frames =
    written p k es places (drop (data_words e) words) (with_due p k e (take (data_words e) words) place frames)

-- one of some entries, with the place that stands by it
pub record IsBy (es : List Entry) (places : List ℕ) (e : Entry) (place : ℕ) : Type 0 where
  pub number : ℕ
  pub stands : slice_get es number ≡ Some e
  pub at : slice_get places number ≡ Some place

by_later : (x : Entry) (es : List Entry) (first : ℕ) (places : List ℕ) (e : Entry) (place : ℕ) → IsBy es places e place → IsBy (x ∷ es) (first ∷ places) e place
by_later x es first places e place is = record { number = suc is.number; stands = is.stands; at = is.at }

abbrev pub AreApart : List ℕ → Type 0
AreApart places = AllPairs (λ (a b : ℕ). a ≢ b) places

rest_apart : (first : ℕ) (places : List ℕ) → AreApart (first ∷ places) → AreApart places
rest_apart first places apart i j d before below = apart (suc i) (suc j) d (omega arith) (omega arith)

first_apart : (first : ℕ) (places : List ℕ) (n place : ℕ) → AreApart (first ∷ places) → slice_get places n ≡ Some place → first ≢ place
first_apart first places n place apart is same =
    apart 0 (suc n) place (omega arith) (let within = slice_get_within places n place is in omega arith)
    (same ∙ sym (get_or_from_slice_get places n place place is))

written_elsewhere : (p : ProviderState) (k : ℕ) (es : List Entry) (places words : List ℕ) (frames : List (List ℕ)) (other : ℕ) →
    ((e : Entry) (place : ℕ) → IsBy es places e place → IsDue k e.ratio e.phase → other ≢ place) →
    slice_get (written p k es places words frames) other ≡ slice_get frames other
written_elsewhere p k [] places words frames other apart = refl
written_elsewhere p k (x ∷ es) [] words frames other apart = refl
written_elsewhere p k (x ∷ es) (first ∷ places) words frames other apart =
    written_elsewhere p k es places (drop (data_words x) words) (with_due p k x (take (data_words x) words) first frames) other
    (λ e place is. apart e place (by_later x es first places e place is))
    ∙ due_elsewhere p k x (take (data_words x) words) first frames other
    (apart x first (record { number = 0; stands = refl; at = refl }))

length-written : (p : ProviderState) (k : ℕ) (es : List Entry) (places words : List ℕ) (frames : List (List ℕ)) →
    length (written p k es places words frames) ≡ length frames
length-written p k [] places words frames = refl
length-written p k (x ∷ es) [] words frames = refl
length-written p k (x ∷ es) (first ∷ places) words frames =
    length-written p k es places (drop (data_words x) words) (with_due p k x (take (data_words x) words) first frames)
    ∙ length-due p k x (take (data_words x) words) first frames

-- what is written at one place leaves the room at all others
place_kept : (p : ProviderState) (k : ℕ) (x : Entry) (words : List ℕ) (first : ℕ) (frames : List (List ℕ)) (e : Entry) (place : ℕ) → first ≢ place →
    HasPlace frames e place → HasPlace (with_due p k x words first frames) e place
place_kept p k x words first frames e place apart fits = record {
  bytes = fits.bytes;
  stands = due_elsewhere p k x words first frames place (λ due same. apart (sym same)) ∙ fits.stands;
  count = fits.count;
}

places_from : (p : ProviderState) (k : ℕ) (x : Entry) (words : List ℕ) (first : ℕ) (frames : List (List ℕ)) (es : List Entry) (places : List ℕ) →
    ((n place : ℕ) → slice_get places n ≡ Some place → first ≢ place) → AllZip (HasPlace frames) es places →
    AllZip (HasPlace (with_due p k x words first frames)) es places
places_from p k x words first frames [] [] apart fits = fits
places_from p k x words first frames [] (place ∷ places) apart fits = fits
places_from p k x words first frames (e ∷ es) [] apart fits = fits
places_from p k x words first frames (e ∷ es) (place ∷ places) apart fits = (
  place_kept p k x words first frames e place (apart 0 place refl) fits.0,
  places_from p k x words first frames es places (λ n there is. apart (suc n) there is) fits.1,
)

pub places_kept : (p : ProviderState) (k : ℕ) (x : Entry) (words : List ℕ) (first : ℕ) (frames : List (List ℕ)) (es : List Entry) (places : List ℕ) →
    AreApart (first ∷ places) → AllZip (HasPlace frames) es places → AllZip (HasPlace (with_due p k x words first frames)) es places
places_kept p k x words first frames es places apart fits =
    places_from p k x words first frames es places (λ n place is. first_apart first places n place apart is) fits

-- the part of the first frame, and of one behind it
part_first : (x : Entry) (es : List Entry) (words : List ℕ) → part_of (x ∷ es) x.frame.0 words ≡ take (data_words x) words
part_first x es words =
    ap (λ (b : Bool). if b then take (data_words x) words else part_of es x.frame.0 (drop (data_words x) words)) (eq-eqb x.frame.0 x.frame.0 refl)

part_later : (x : Entry) (es : List Entry) (e : Entry) (n : ℕ) (words : List ℕ) → AreAscending (x ∷ es) → slice_get es n ≡ Some e →
    part_of (x ∷ es) e.frame.0 words ≡ part_of es e.frame.0 (drop (data_words x) words)
part_later x es e n words up is =
    let less : x.frame.0 < e.frame.0 =
    subst (λ (y : Entry). x.frame.0 < y.frame.0) (get_or_from_slice_get es n e e is)
    (up 0 (suc n) e (omega arith) (let within = slice_get_within es n e is in omega arith)) in
    ap (λ (b : Bool). if b then take (data_words x) words else part_of es e.frame.0 (drop (data_words x) words))
    (ne_eqb x.frame.0 e.frame.0 (λ same. omega (arith, less, same)))

written_there : (p : ProviderState) (k : ℕ) (es : List Entry) (places words : List ℕ) (frames : List (List ℕ)) → AreAscending es → AreApart places →
    AllZip (HasPlace frames) es places → (n : ℕ) (e : Entry) (place : ℕ) → slice_get es n ≡ Some e → slice_get places n ≡ Some place →
    IsDue k e.ratio e.phase → slice_get (written p k es places words frames) place ≡ Some (sent_frame p k e (part_of es e.frame.0 words))
written_there p k [] places words frames up apart fits n e place stands at due = absurd (cc)
written_there p k (x ∷ es) [] words frames up apart fits n e place stands at due = absurd fits
written_there p k (x ∷ es) (first ∷ places) words frames up apart fits zero e place stands at due =
    let is : x ≡ e = same_Some x e stands in
    let here : first ≡ place = same_Some first place at in
    let now : IsDue k x.ratio x.phase = subst (λ (y : Entry). IsDue k y.ratio y.phase) (sym is) due in
    let rest : List (List ℕ) = with_due p k x (take (data_words x) words) first frames in
    let Goal : Entry → ℕ → Type 0 = λ y there.
    slice_get (written p k es places (drop (data_words x) words) rest) there ≡ Some (sent_frame p k y (part_of (x ∷ es) y.frame.0 words)) in
    let one : Goal x first =
    written_elsewhere p k es places (drop (data_words x) words) rest first (λ y there by soon. first_apart first places by.number there apart by.at)
    ∙ ap (λ (b : Bool). slice_get (if b then slice_set frames first (sent_frame p k x (take (data_words x) words)) else frames) first) (due_to k x now)
    ∙ set_there frames first (sent_frame p k x (take (data_words x) words)) fits.0.bytes fits.0.stands
    ∙ ap (λ ws. Some (sent_frame p k x ws)) (sym (part_first x es words)) in
    subst (λ y. Goal y place) is (subst (Goal x) here one)
written_there p k (x ∷ es) (first ∷ places) words frames up apart fits (suc n) e place stands at due =
    written_there p k es places (drop (data_words x) words) (with_due p k x (take (data_words x) words) first frames) (tail_up x es up)
    (rest_apart first places apart) (places_kept p k x (take (data_words x) words) first frames es places apart fits.1) n e place stands at due
    ∙ ap (λ ws. Some (sent_frame p k e ws)) (sym (part_later x es e n words up stands))

pub all_loaded : (p : ProviderState) (k : ℕ) (places words : List ℕ) (frames : List (List ℕ)) → AreAscending p.entries → AreApart places →
    AllZip (HasPlace frames) p.entries places → IsLoaded p k words places frames (written p k p.entries places words frames)
all_loaded p k places words frames up apart fits = record {
  due = λ e place is due. written_there p k p.entries places words frames up apart fits is.number e place is.stands is.at due;
  other = λ other never. written_elsewhere p k p.entries places words frames other
      (λ e place by due same. never e (record { number = by.number; stands = by.stands; at = subst (λ n. slice_get places by.number ≡ Some n) (sym same) by.at }) due);
  count = length-written p k p.entries places words frames;
}

-- ---- one step of the loop

-- the entry and the place at a number
pub record IsNext (p : ProviderState) (places : List ℕ) (frames : List (List ℕ)) (i : ℕ) (e : Entry) (place : ℕ) : Type 0 where
  pub entries : drop i p.entries ≡ e ∷ drop (i + 1) p.entries
  pub places_are : drop i places ≡ place ∷ drop (i + 1) places
  pub fits : HasPlace frames e place
  pub later : AllZip (HasPlace frames) (drop (i + 1) p.entries) (drop (i + 1) places)

zip_head : (frames : List (List ℕ)) (e : Entry) (es : List Entry) (places : List ℕ) → AllZip (HasPlace frames) (e ∷ es) places →
    (place : ℕ) × (rest : List ℕ) × (places ≡ place ∷ rest)
zip_head frames e es [] fits = absurd fits
zip_head frames e es (place ∷ rest) fits = (place, rest, refl)

longer : (places : List ℕ) (i place : ℕ) (rest : List ℕ) → drop i places ≡ place ∷ rest → i < length places
longer places i place rest is =
    let count : length (drop i places) ≡ suc (length rest) = ap length is in omega (arith, count, length-drop i places)

pub place_within : (p : ProviderState) (places : List ℕ) (frames : List (List ℕ)) (i : ℕ) (e : Entry) → i < length p.entries →
    AllZip (HasPlace frames) (drop i p.entries) (drop i places) → i < length places
place_within p places frames i e within fits =
    let (place, rest, is) = zip_head frames (get_or p.entries i e) (drop (i + 1) p.entries) (drop i places)
    (subst (λ (es : List Entry). AllZip (HasPlace frames) es (drop i places)) (drop_more p.entries i e within) fits) in
    longer places i place rest is

pub next_at : (p : ProviderState) (places : List ℕ) (frames : List (List ℕ)) (i : ℕ) (e : Entry) (place : ℕ) → i < length p.entries →
    e ≡ get_or p.entries i e → place ≡ get_or places i 0 → AllZip (HasPlace frames) (drop i p.entries) (drop i places) → IsNext p places frames i e place
next_at p places frames i e place within read at fits =
    let entries : drop i p.entries ≡ e ∷ drop (i + 1) p.entries = drop_more p.entries i e within ∙ ap (λ x. x ∷ drop (i + 1) p.entries) (sym read) in
    let there = place_within p places frames i e within fits in
    let rest : drop i places ≡ place ∷ drop (i + 1) places = drop_more places i 0 there ∙ ap (λ n. n ∷ drop (i + 1) places) (sym at) in
    let both : AllZip (HasPlace frames) (e ∷ drop (i + 1) p.entries) (place ∷ drop (i + 1) places) =
    subst₂ (λ (es : List Entry) (ns : List ℕ). AllZip (HasPlace frames) es ns) entries rest fits in
    record { entries = entries; places_are = rest; fits = both.0; later = both.1 }

-- what is left to write after it
pub load_step : (p : ProviderState) (k : ℕ) (places words : List ℕ) (frames new : List (List ℕ)) (i start end : ℕ) (e : Entry) (place : ℕ) →
    IsNext p places frames i e place → end ≡ start + data_words e → new ≡ with_due p k e (take (data_words e) (drop start words)) place frames →
    written p k (drop (i + 1) p.entries) (drop (i + 1) places) (drop end words) new ≡ written p k (drop i p.entries) (drop i places) (drop start words) frames
load_step p k places words frames new i start end e place next after wrote =
    ap (written p k (drop (i + 1) p.entries) (drop (i + 1) places) (drop end words)) wrote
    ∙ ap (λ ws. written p k (drop (i + 1) p.entries) (drop (i + 1) places) ws (with_due p k e (take (data_words e) (drop start words)) place frames))
    (ap (λ n. drop n words) after ∙ sym (drop-drop (data_words e) start words))
    ∙ ap (λ es. written p k es (place ∷ drop (i + 1) places) (drop start words) frames) (sym next.entries)
    ∙ ap (λ ns. written p k (drop i p.entries) ns (drop start words) frames) (sym next.places_are)

rest_apart_from : (places : List ℕ) (i : ℕ) → AreApart places → AreApart (drop i places)
rest_apart_from places zero apart = apart
rest_apart_from [] (suc i) apart = apart
rest_apart_from (place ∷ places) (suc i) apart = rest_apart_from places i (rest_apart place places apart)

pub places_left : (p : ProviderState) (k : ℕ) (places words : List ℕ) (frames new : List (List ℕ)) (i : ℕ) (e : Entry) (place : ℕ) →
    IsNext p places frames i e place → AreApart places → new ≡ with_due p k e words place frames →
    AllZip (HasPlace new) (drop (i + 1) p.entries) (drop (i + 1) places)
places_left p k places words frames new i e place next apart wrote =
    let others : AreApart (place ∷ drop (i + 1) places) = subst AreApart next.places_are (rest_apart_from places i apart) in
    subst (λ fs. AllZip (HasPlace fs) (drop (i + 1) p.entries) (drop (i + 1) places)) (sym wrote)
    (places_kept p k e words place frames (drop (i + 1) p.entries) (drop (i + 1) places) others next.later)

-- ---- the frame of one entry, as it is written over the old one

pub due_written : (p : ProviderState) (k : ℕ) (e : Entry) (words : List ℕ) (place : ℕ) (frames : List (List ℕ)) (old out : List ℕ) →
    slice_get frames place ≡ Some old → length out ≡ length old → out ≡ sent_frame p k e words → is_due k e ≡ true →
    slice_set frames place (written_over (slice_index_or frames place []) out) ≡ with_due p k e words place frames
due_written p k e words place frames old out stands long is due =
    let before : slice_index_or frames place [] ≡ old = get_or_from_slice_get frames place old [] stands in
    ap (λ l. slice_set frames place (written_over l out)) before
    ∙ ap (λ l. slice_set frames place l) (take_at out (drop (length out) old) (length old) long ∙ is)
    ∙ sym (ap (λ (b : Bool). if b then slice_set frames place (sent_frame p k e words) else frames) due)

-- ---- the words of one entry more

pub words_step : (es : List Entry) (i : ℕ) (e : Entry) (start width : ℕ) → i < length es → e ≡ get_or es i e → start ≡ words_in (take i es) →
    width ≡ data_words e → start + width ≡ words_in (take (i + 1) es)
words_step es i e start width within read so_far wide =
    let one = sum_by_more data_words es i e within in
    let same : data_words e ≡ data_words (get_or es i e) = ap data_words read in
    omega (arith, one, same, so_far, wide)

pub words_room : (es : List Entry) (i : ℕ) (e : Entry) (start width : ℕ) → i < length es → e ≡ get_or es i e → start ≡ words_in (take i es) →
    width ≡ data_words e → start + width ≤ words_in es
words_room es i e start width within read so_far wide =
    let least = sum_by_more_le data_words es i e within in
    let same : data_words e ≡ data_words (get_or es i e) = ap data_words read in
    omega (arith, least, same, so_far, wide)

-- after the last one all are written
pub load_end : (p : ProviderState) (k : ℕ) (places words : List ℕ) (old frames : List (List ℕ)) (i start : ℕ) → length p.entries ≤ i →
    written p k (drop i p.entries) (drop i places) (drop start words) frames ≡ written p k p.entries places words old →
    AreAscending p.entries → AreApart places → AllZip (HasPlace old) p.entries places → IsLoaded p k words places old frames
load_end p k places words old frames i start past rest up apart fits =
    let whole : frames ≡ written p k p.entries places words old =
    ap (λ es. written p k es (drop i places) (drop start words) frames) (sym (drop_all i p.entries past)) ∙ rest in
    subst (IsLoaded p k words places old) (sym whole) (all_loaded p k places words old up apart fits)
