-- Which frames are taken, and for which causes others are ignored.
use Rattle.std.proofs.Common.{◌≡◌, ◌≢◌, ◌⊎◌, ℕ, zero, suc, ◌==◌, ◌<◌, Bool, true, false, not, ◌&&◌, cond, if◌then◌else◌, List, [], ◌∷◌, length, map, get_or, slice_get, Option, Some, None, Result, Ok, Err, IsErr, inl, inr, refl, sym, ◌∙◌, ap, subst, arith}
use Rattle.std.specs.Prelude.{position, slice_set}
use Rattle.std.specs.List.{Contains, position_or_len}
use Rattle.std.proofs.lemmas.Bool.{cases_Bool, cases_lt, and_parts, and_from, eqb-true, eqb-false, eq-eqb, ne_eqb, lt-ltb}
use Rattle.std.proofs.lemmas.Bool.Decides.{nat_tests}
use Rattle.std.proofs.lemmas.List.Quantifiers.{position-Some}
use Rattle.std.proofs.lemmas.List.Sums.{fails_before_first}
use Rattle.std.proofs.lemmas.Option.{same_Some, slice_get-get_or, slice_get_within, get_or_from_slice_get}
use Rattle.irt_base.specs.Cycle.{IsDue}
use Rattle.irt_base.specs.Words.{words_of}
use Rattle.iso_station.specs.Consumer.{ConsumerState, IsWanted, IsTakenFrame, HasCause, IsIgnoredFrame, if_frame}
use Rattle.iso_station.specs.Held.{Held, wants, with_words}
use Rattle.iso_station.specs.Kept.{AreInOrder}
use Rattle.iso_station.specs.Mark.{counter_of, is_good, IsGood}
use Rattle.iso_station.specs.Taking.{taking_place}
use Rattle.rtc3_frame.specs.Frame.{Fields, fields_at}
use Rattle.rtc3_frame.specs.declared.fault.FrameFault.{FrameFault}

-- ---- tests

wanted_by : (k frame count : ℕ) (held : Held) → wants k frame count held ≡ true →
    (held.entry.frame.0 ≡ frame) × (held.entry.data_length ≡ count) × IsDue k held.entry.ratio held.entry.phase
wanted_by k frame count held is = grind (arith, nat_tests)

wants_it : (k frame count : ℕ) (held : Held) → held.entry.frame.0 ≡ frame → held.entry.data_length ≡ count →
    IsDue k held.entry.ratio held.entry.phase → wants k frame count held ≡ true
wants_it k frame count held named long due = grind (arith, nat_tests)

good_by : (status : ℕ) → is_good status ≡ true → IsGood status
good_by status is = grind (arith, nat_tests)

is_good_by : (status : ℕ) → IsGood status → is_good status ≡ true
is_good_by status (valid, running) = grind (arith, nat_tests)

none_passes : {X : Type 0} (p : X → Bool) (xs : List X) → position p xs ≡ None → (x : X) → Contains xs x → p x ≡ false
none_passes p xs none x (i, within, is) =
    elim (cases_lt (position_or_len p xs) (length xs)) [
      | inl some ↦
          let there : Some (position_or_len p xs) ≡ None =
          sym (ap (λ (b : Bool). cond b (Some (position_or_len p xs)) None) (lt-ltb (position_or_len p xs) (length xs) some)) ∙ none in absurd (cc)
      | inr past ↦ ap p (sym is) ∙ fails_before_first p xs i x (omega (arith, within, past))
    ]

-- ---- the place where a frame is kept

abbrev is_now : ℕ → ℕ → Fields → Bool
is_now factor k f = (f.counter == counter_of factor k) && is_good f.status

some_place : (factor k : ℕ) (frames : List Held) (f : Fields) (place : ℕ) → taking_place factor k frames f ≡ Some place →
    (is_now factor k f ≡ true) × (position (wants k f.frame (length f.csdu)) frames ≡ Some place)
some_place factor k frames f place is =
    let At : Bool → Option ℕ = λ b. if b then position (wants k f.frame (length f.csdu)) frames else None in
    elim (cases_Bool (is_now factor k f)) [
      | inl so ↦ (so, sym (ap At so) ∙ is)
      | inr not ↦ let none : None ≡ Some place = sym (ap At not) ∙ is in absurd (cc)
    ]

found_one : {X : Type 0} (p : X → Bool) (xs : List X) (i : ℕ) → position p xs ≡ Some i → (x : X) × (slice_get xs i ≡ Some x) × (p x ≡ true)
found_one p [] i is = absurd (cc)
found_one p (y ∷ ys) i is =
    let found = position-Some p (y ∷ ys) i y is in (get_or (y ∷ ys) i y, slice_get-get_or (y ∷ ys) i y found.0, found.1)

contained : {X : Type 0} (xs : List X) (i : ℕ) (x : X) → slice_get xs i ≡ Some x → Contains xs x
contained xs i x is = (i, slice_get_within xs i x is, get_or_from_slice_get xs i x x is)

-- what is kept there is of the frame
pub record IsKeptAt (state : ConsumerState) (f : Fields) (place : ℕ) : Type 0 where
  pub held : Held
  pub stands : slice_get state.frames place ≡ Some held
  pub named : held.entry.frame.0 ≡ f.frame
  pub long : held.entry.data_length ≡ length f.csdu
  pub due : IsDue state.cycle held.entry.ratio held.entry.phase
  pub counter : f.counter ≡ counter_of state.factor state.cycle
  pub good : IsGood f.status

pub kept_at : (state : ConsumerState) (f : Fields) (place : ℕ) → taking_place state.factor state.cycle state.frames f ≡ Some place → IsKeptAt state f place
kept_at state f place is =
    let (now, at) = some_place state.factor state.cycle state.frames f place is in
    let (same, good) = and_parts (f.counter == counter_of state.factor state.cycle) (is_good f.status) now in
    let (held, stands, passes) = found_one (wants state.cycle f.frame (length f.csdu)) state.frames place at in
    let by = wanted_by state.cycle f.frame (length f.csdu) held passes in
    record {
      held = held;
      stands = stands;
      named = by.0;
      long = by.1;
      due = by.2;
      counter = eqb-true f.counter (counter_of state.factor state.cycle) same;
      good = good_by f.status good;
    }

pub is_taken : (state : ConsumerState) (bytes : List ℕ) (f : Fields) (place : ℕ) → fields_at bytes ≡ Ok f →
    taking_place state.factor state.cycle state.frames f ≡ Some place → IsTakenFrame state bytes
is_taken state bytes f place told is =
    let at = kept_at state f place is in
    record {
      f = f;
      told = told;
      wanted = record { held = at.held; stands = contained state.frames place at.held at.stands; frame = at.named; count = at.long; due = at.due };
      counter = at.counter;
      good = at.good;
    }

-- nowhere: for one of the causes
not_now : (factor k : ℕ) (f : Fields) → is_now factor k f ≡ false → (f.counter ≢ counter_of factor k) ⊎ (¬ IsGood f.status)
not_now factor k f not =
    elim (cases_Bool (f.counter == counter_of factor k)) [
      | inl same ↦ inr (λ good. let both : is_now factor k f ≡ true = and_from (f.counter == counter_of factor k) (is_good f.status) same (is_good_by f.status good) in
          let differ : true ≡ false = sym both ∙ not in absurd (cc))
      | inr apart ↦ inl (eqb-false f.counter (counter_of factor k) apart)
    ]

has_cause : (state : ConsumerState) (f : Fields) → taking_place state.factor state.cycle state.frames f ≡ None → HasCause state f
has_cause state f is =
    let At : Bool → Option ℕ = λ b. if b then position (wants state.cycle f.frame (length f.csdu)) state.frames else None in
    elim (cases_Bool (is_now state.factor state.cycle f)) [
      | inl so ↦ inl (λ wanted.
          let fails = none_passes (wants state.cycle f.frame (length f.csdu)) state.frames (sym (ap At so) ∙ is) wanted.held wanted.stands in
          let passes = wants_it state.cycle f.frame (length f.csdu) wanted.held wanted.frame wanted.count wanted.due in
          let both : true ≡ false = sym passes ∙ fails in absurd (cc))
      | inr not ↦ inr (not_now state.factor state.cycle f not)
    ]

pub is_ignored : (state : ConsumerState) (bytes : List ℕ) (f : Fields) → fields_at bytes ≡ Ok f →
    taking_place state.factor state.cycle state.frames f ≡ None → IsIgnoredFrame state bytes
is_ignored state bytes f told is = inr (f, told, has_cause state f is)

pub is_no_frame : (state : ConsumerState) (bytes : List ℕ) (fault : FrameFault) → fields_at bytes ≡ Err fault → IsIgnoredFrame state bytes
is_no_frame state bytes fault told = inl (subst (λ (r : Result Fields FrameFault). IsErr r) (sym told) refl)

pub same_fields : (r : Result Fields FrameFault) (f g : Fields) → r ≡ Ok f → r ≡ Ok g → f ≡ g
same_fields r f g first second = let both : Ok f ≡ Ok g = sym first ∙ second in cc

ok_is_no_fault : (r : Result Fields FrameFault) (f : Fields) → r ≡ Ok f → IsErr r → ⊥
ok_is_no_fault (Ok g) f is fault = absurd (cc)
ok_is_no_fault (Err e) f is fault = absurd (cc)

-- not both
pub exclusive : (state : ConsumerState) (bytes : List ℕ) → IsTakenFrame state bytes → IsIgnoredFrame state bytes → ⊥
exclusive state bytes taken (inl fault) = ok_is_no_fault (fields_at bytes) taken.f taken.told fault
exclusive state bytes taken (inr (f, told, cause)) =
    let same : taken.f ≡ f = same_fields (fields_at bytes) taken.f f taken.told told in
    go f same cause
  where
    go : (g : Fields) → taken.f ≡ g → HasCause state g → ⊥
    go g same (inl unwanted) = unwanted (subst (IsWanted state) same taken.wanted)
    go g same (inr (inl other)) = other (ap (λ (x : Fields). x.counter) (sym same) ∙ taken.counter)
    go g same (inr (inr bad)) = bad (subst (λ (x : Fields). IsGood x.status) same taken.good)

-- ---- what is kept after it

none_of : (f : Fields) (frames : List Held) → ((n : ℕ) (d : Held) → n < length frames → f.frame < (get_or frames n d).entry.frame.0) → map (if_frame f) frames ≡ frames
none_of f [] above = refl
none_of f (h ∷ hs) above =
    let apart : (h.entry.frame.0 == f.frame) ≡ false = ne_eqb h.entry.frame.0 f.frame (λ same. let less = above 0 h (omega arith) in omega (arith, less, same)) in
    ap (λ (b : Bool). (if b then with_words (words_of f.csdu) h else h) ∷ map (if_frame f) hs) apart
    ∙ ap (λ l. h ∷ l) (none_of f hs (λ n d within. above (suc n) d (omega arith)))

rest_in_order : (h : Held) (hs : List Held) → AreInOrder (h ∷ hs) → AreInOrder hs
rest_in_order h hs up i j d before below = up (suc i) (suc j) d (omega arith) (omega arith)

pub set_is_map : (f : Fields) (frames : List Held) (place : ℕ) (held : Held) → AreInOrder frames → slice_get frames place ≡ Some held →
    held.entry.frame.0 ≡ f.frame → slice_set frames place (with_words (words_of f.csdu) held) ≡ map (if_frame f) frames
set_is_map f [] place held up stands named = absurd (cc)
set_is_map f (h ∷ hs) zero held up stands named =
    let is : h ≡ held = same_Some h held stands in
    let here : h.entry.frame.0 ≡ f.frame = ap (λ (x : Held). x.entry.frame.0) is ∙ named in
    let one : (h.entry.frame.0 == f.frame) ≡ true = eq-eqb h.entry.frame.0 f.frame here in
    ap (λ (x : Held). with_words (words_of f.csdu) x ∷ hs) (sym is)
    ∙ ap (λ l. with_words (words_of f.csdu) h ∷ l)
    (sym (none_of f hs (λ n d within. let less = up 0 (suc n) d (omega arith) (omega arith) in omega (arith, less, here))))
    ∙ sym (ap (λ (b : Bool). (if b then with_words (words_of f.csdu) h else h) ∷ map (if_frame f) hs) one)
set_is_map f (h ∷ hs) (suc place) held up stands named =
    let less : h.entry.frame.0 < held.entry.frame.0 =
    subst (λ (x : Held). h.entry.frame.0 < x.entry.frame.0) (get_or_from_slice_get hs place held held stands)
    (up 0 (suc place) held (omega arith) (let within = slice_get_within hs place held stands in omega arith)) in
    let apart : (h.entry.frame.0 == f.frame) ≡ false = ne_eqb h.entry.frame.0 f.frame (λ same. omega (arith, less, same, named)) in
    ap (λ l. h ∷ l) (set_is_map f hs place held (rest_in_order h hs up) stands named)
    ∙ sym (ap (λ (b : Bool). (if b then with_words (words_of f.csdu) h else h) ∷ map (if_frame f) hs) apart)

-- what was read at the place is what is kept there
pub same_kept : (state : ConsumerState) (f : Fields) (place : ℕ) (at : IsKeptAt state f place) (items : List Held) (x : Held) →
    items ≡ state.frames → x ≡ get_or items place x → at.held ≡ x
same_kept state f place at items x same read =
    sym (get_or_from_slice_get state.frames place at.held x at.stands) ∙ ap (λ (hs : List Held). get_or hs place x) (sym same) ∙ sym read

pub kept_set : (state : ConsumerState) (f : Fields) (place : ℕ) (at : IsKeptAt state f place) (items : List Held) (x y : Held) →
    items ≡ state.frames → AreInOrder items → x ≡ get_or items place x → y ≡ with_words (words_of f.csdu) x →
    slice_set items place y ≡ map (if_frame f) state.frames
kept_set state f place at items x y same up read wrote =
    let held : at.held ≡ x = same_kept state f place at items x same read in
    ap (λ (h : Held). slice_set items place h) (wrote ∙ ap (with_words (words_of f.csdu)) (sym held))
    ∙ ap (λ (hs : List Held). slice_set hs place (with_words (words_of f.csdu) at.held)) same
    ∙ set_is_map f state.frames place at.held (subst AreInOrder same up) at.stands at.named

pub if_frame_entry : (f : Fields) (held : Held) → (if_frame f held).entry ≡ held.entry
if_frame_entry f held = go (held.entry.frame.0 == f.frame)
  where
    go : (b : Bool) → (if b then with_words (words_of f.csdu) held else held).entry ≡ held.entry
    go true = refl
    go false = refl
