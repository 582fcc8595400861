-- A consumer that takes what came to its device.
use Rattle.std.proofs.Common.{◌≡◌, ◌↔◌, ◌+◌, ℕ, List, [], ◌∷◌, ◌++◌, slice_get, map, Some, Ok, inl, inr, refl, sym, ◌∙◌, ap, subst, arith}
use Rattle.std.specs.List.{Contains}
use Rattle.std.proofs.lemmas.List.Sums.{sum_by-cons}
use Rattle.std.proofs.lemmas.Option.{same_Some}
use Rattle.cycle_frames.specs.declared.came.Came.{Came}
use Rattle.irt_base.specs.Cycle.{IsDue}
use Rattle.irt_base.specs.declared.blocks.Entry.{Entry}
use Rattle.irt_switch.proofs.Members.{in_map}
use Rattle.iso_rules.specs.Station.{data_words}
use Rattle.iso_station.specs.Consumer.{ConsumerState, IsTakenFrame, if_frame, with_frame, count_of, image_count}
use Rattle.iso_station.specs.Cycles.{with_frames}
use Rattle.iso_station.specs.Held.{Held}
use Rattle.iso_station.specs.declared.consumer.Accept.{Accept}
use Rattle.iso_station.specs.declared.consumer.Accept.TheVariants.{Taken, Ignored}
use Rattle.iso_station.proofs.TakingLemmas.{if_frame_entry, same_fields}
use Rattle.rtc3_frame.specs.Frame.{Fields, fields_at}
use Rattle.plant_stations.specs.Taken.{CameAs, TakesFrames}
use Rattle.plant_stations.proofs.Lists.{in_front, at_end, front_or_end}

-- ---- what a consumer keeps when it takes frames

one_taken : (f : Fields) (s : ConsumerState) (bytes : List ℕ) → IsTakenFrame s bytes → IsTakenFrame (with_frame f s) bytes
one_taken f s bytes is =
    let same : (if_frame f is.wanted.held).entry ≡ is.wanted.held.entry = if_frame_entry f is.wanted.held in
    record {
      f = is.f;
      told = is.told;
      wanted = record {
        held = if_frame f is.wanted.held;
        stands = in_map (if_frame f) s.frames is.wanted.held is.wanted.stands;
        frame = ap (λ (e : Entry). e.frame.0) same ∙ is.wanted.frame;
        count = ap (λ (e : Entry). e.data_length) same ∙ is.wanted.count;
        due = subst (λ (e : Entry). IsDue s.cycle e.ratio e.phase) (sym same) is.wanted.due;
      };
      counter = is.counter;
      good = is.good;
    }

pub still_taken : (fs : List Fields) (s : ConsumerState) (bytes : List ℕ) → IsTakenFrame s bytes → IsTakenFrame (with_frames fs s) bytes
still_taken [] s bytes is = is
still_taken (f ∷ fs) s bytes is = still_taken fs (with_frame f s) bytes (one_taken f s bytes is)

with_one_more : (fs : List Fields) (f : Fields) (s : ConsumerState) → with_frames (fs ++ f ∷ []) s ≡ with_frame f (with_frames fs s)
with_one_more [] f s = refl
with_one_more (g ∷ fs) f s = with_one_more fs f (with_frame g s)

pub same_cycle : (fs : List Fields) (s : ConsumerState) → (with_frames fs s).cycle ≡ s.cycle
same_cycle [] s = refl
same_cycle (f ∷ fs) s = same_cycle fs (with_frame f s)

-- ---- one that came

pub none_came : (device : ℕ) (frames : List (List ℕ)) (old : ConsumerState) → TakesFrames device frames [] old old
none_came device frames old = record {
  fields = [];
  state = refl;
  each = λ f (n, within, is). absurd (omega arith);
  all = λ f is. let (n, within, same) = is.stands in absurd (omega arith);
}

module _ (device : ℕ) (frames : List (List ℕ)) (came : List Came) (old : ConsumerState) where
  pub also : (one : Came) (f : Fields) → CameAs device frames came f → CameAs device frames (came ++ one ∷ []) f
  also one f is = record { c = is.c; bytes = is.bytes; stands = in_front came one is.c is.stands; here = is.here; at = is.at; told = is.told }

  -- It is not for the device, or ignored.
  pub passed : (one : Came) (now : ConsumerState) → TakesFrames device frames came old now →
      ((bytes : List ℕ) → one.device.0 ≡ device → slice_get frames one.demand ≡ Some bytes → IsTakenFrame old bytes → ⊥) →
      TakesFrames device frames (came ++ one ∷ []) old now
  passed one now takes never = record {
    fields = takes.fields;
    state = takes.state;
    each = λ f is. also one f (takes.each f is);
    all = λ f is taken. elim (front_or_end came one is.c is.stands) [
      | inl front ↦ takes.all f (record { c = is.c; bytes = is.bytes; stands = front; here = is.here; at = is.at; told = is.told }) taken
      | inr same ↦ absurd (never is.bytes (ap (λ (c : Came). c.device.0) same ∙ is.here) (ap (λ (c : Came). slice_get frames c.demand) same ∙ is.at) taken)
    ];
  }

  -- It is taken.
  pub taken_too : (one : Came) (now new : ConsumerState) (bytes : List ℕ) (f : Fields) → TakesFrames device frames came old now → one.device.0 ≡ device →
      slice_get frames one.demand ≡ Some bytes → fields_at bytes ≡ Ok f → new ≡ with_frame f now → TakesFrames device frames (came ++ one ∷ []) old new
  taken_too one now new bytes f takes mine at told is = record {
    fields = takes.fields ++ f ∷ [];
    state = is ∙ ap (with_frame f) takes.state ∙ sym (with_one_more takes.fields f old);
    each = λ g has. elim (front_or_end takes.fields f g has) [
      | inl front ↦ also one g (takes.each g front)
      | inr same ↦ subst (CameAs device frames (came ++ one ∷ [])) same
          (record { c = one; bytes = bytes; stands = at_end came one; here = mine; at = at; told = told })
    ];
    all = λ g by taken. elim (front_or_end came one by.c by.stands) [
      | inl front ↦ in_front takes.fields f g
          (takes.all g (record { c = by.c; bytes = by.bytes; stands = front; here = by.here; at = by.at; told = by.told }) taken)
      | inr same ↦
          let read : bytes ≡ by.bytes = same_Some bytes by.bytes (sym at ∙ ap (λ (c : Came). slice_get frames c.demand) same ∙ by.at) in
          let one_frame : f ≡ g = same_fields (fields_at by.bytes) f g (ap fields_at (sym read) ∙ told) by.told in
          subst (Contains (takes.fields ++ f ∷ [])) one_frame (at_end takes.fields f)
    ];
  }

  -- what the consumer answers
  pub answered : (r : Accept) (one : Came) (now new : ConsumerState) (bytes : List ℕ) → TakesFrames device frames came old now → one.device.0 ≡ device →
      slice_get frames one.demand ≡ Some bytes → ((r ≡ Taken) ↔ IsTakenFrame now bytes) →
      ((f : Fields) → r ≡ Taken → fields_at bytes ≡ Ok f → new ≡ with_frame f now) → (r ≡ Ignored → new ≡ now) →
      TakesFrames device frames (came ++ one ∷ []) old new
  answered Taken one now new bytes takes mine at taken kept unchanged =
      let is = taken.0 refl in taken_too one now new bytes is.f takes mine at is.told (kept is.f refl is.told)
  answered Ignored one now new bytes takes mine at taken kept unchanged =
      subst (TakesFrames device frames (came ++ one ∷ []) old) (sym (unchanged refl))
      (passed one now takes (λ other here stands would.
      let read : other ≡ bytes = same_Some other bytes (sym stands ∙ at) in
      let is : IsTakenFrame now bytes = subst (λ (s : ConsumerState). IsTakenFrame s bytes) (sym takes.state)
      (still_taken takes.fields old bytes (subst (IsTakenFrame old) read would)) in
      let both : Ignored ≡ Taken = taken.1 is in absurd (cc)))

-- the cycle that goes on is the same
pub cycle_kept : (r : Accept) (now new : ConsumerState) (bytes : List ℕ) → ((r ≡ Taken) ↔ IsTakenFrame now bytes) →
    ((f : Fields) → r ≡ Taken → fields_at bytes ≡ Ok f → new ≡ with_frame f now) → (r ≡ Ignored → new ≡ now) → new.cycle ≡ now.cycle
cycle_kept Taken now new bytes taken kept unchanged =
    let is = taken.0 refl in ap (λ (s : ConsumerState). s.cycle) (kept is.f refl is.told)
cycle_kept Ignored now new bytes taken kept unchanged = ap (λ (s : ConsumerState). s.cycle) (unchanged refl)

-- ---- how many words they have

pub count_mapped : (f : Held → Held) → ((h : Held) → (f h).entry ≡ h.entry) → (frames : List Held) → count_of (map f frames) ≡ count_of frames
count_mapped f same [] = refl
count_mapped f same (h ∷ hs) =
    sum_by-cons (λ (x : Held). data_words x.entry) (f h) (map f hs)
    ∙ ap (λ (e : Entry). data_words e + count_of (map f hs)) (same h)
    ∙ ap (λ n. data_words h.entry + n) (count_mapped f same hs)
    ∙ sym (sum_by-cons (λ (x : Held). data_words x.entry) h hs)

count_with : (fs : List Fields) (s : ConsumerState) → image_count (with_frames fs s) ≡ image_count s
count_with [] s = refl
count_with (f ∷ fs) s = count_with fs (with_frame f s) ∙ count_mapped (if_frame f) (if_frame_entry f) s.frames

pub count_kept : (device : ℕ) (frames : List (List ℕ)) (came : List Came) (old new : ConsumerState) → TakesFrames device frames came old new →
    image_count new ≡ image_count old
count_kept device frames came old new takes = ap image_count takes.state ∙ count_with takes.fields old
