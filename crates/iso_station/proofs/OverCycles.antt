-- A consumer over any list of cycles keeps each frame by itself.
use Rattle.std.proofs.Common.{◌≡◌, ℕ, zero, suc, ◌+◌, ◌==◌, Bool, if◌then◌else◌, List, [], ◌∷◌, ◌++◌, Option, Some, None, map, filter, inl, inr, refl, sym, ◌∙◌, ap, subst, arith}
use Rattle.std.specs.Prelude.{option_map, fold, flat_map}
use Rattle.std.specs.List.{AllZip, concat, last_or}
use Rattle.std.proofs.lemmas.Bool.{cases_Bool}
use Rattle.irt_base.specs.Words.{words_of}
use Rattle.irt_base.specs.declared.blocks.Bundle.{Bundle}
use Rattle.irt_base.specs.declared.blocks.Entry.{Entry}
use Rattle.iso_rules.specs.Hold.{IsHeldOf}
use Rattle.iso_rules.specs.Station.{consumed_of}
use Rattle.iso_station.specs.Consumer.{ConsumerState, if_frame, with_frame, image_in}
use Rattle.iso_station.specs.Cycles.{with_frames, consumer_after, came_by, IsHeldImage}
use Rattle.iso_station.specs.Held.{Held, with_words, ended, shown}
use Rattle.iso_station.proofs.HeldLemmas.{put, held_after, held_of, ended_entry}
use Rattle.rtc3_frame.specs.Frame.{Fields}

-- ---- lists

map_map : {A B C : Type 0} (f : A → B) (g : B → C) (xs : List A) → map g (map f xs) ≡ map (λ x. g (f x)) xs
map_map f g [] = refl
map_map f g (x ∷ xs) = ap (λ l. g (f x) ∷ l) (map_map f g xs)

map_same : {A B : Type 0} (f g : A → B) → ((x : A) → f x ≡ g x) → (xs : List A) → map f xs ≡ map g xs
map_same f g same [] = refl
map_same f g same (x ∷ xs) = ap (λ y. y ∷ map f xs) (same x) ∙ ap (λ l. g x ∷ l) (map_same f g same xs)

map_itself : {A : Type 0} (xs : List A) → xs ≡ map (λ x. x) xs
map_itself [] = refl
map_itself (x ∷ xs) = ap (λ l. x ∷ l) (map_itself xs)

flat_map_concat : {A : Type 0} (f : A → List ℕ) (xs : List A) → flat_map f xs ≡ concat (map f xs)
flat_map_concat f [] = refl
flat_map_concat f (x ∷ xs) = ap (λ l. f x ++ l) (flat_map_concat f xs)

-- ---- the frames of one cycle

-- what they make of one kept frame
abbrev after_frames : List Fields → Held → Held
after_frames fs held = fold (λ (h : Held) (f : Fields). if_frame f h) held fs

frames_each : (fs : List Fields) (state : ConsumerState) → (with_frames fs state).frames ≡ map (after_frames fs) state.frames
frames_each [] state = map_itself state.frames
frames_each (f ∷ fs) state = frames_each fs (with_frame f state) ∙ map_map (if_frame f) (after_frames fs) state.frames

frames_cycle : (fs : List Fields) (state : ConsumerState) → (with_frames fs state).cycle ≡ state.cycle
frames_cycle [] state = refl
frames_cycle (f ∷ fs) state = frames_cycle fs (with_frame f state)

abbrev data_of : Fields → List ℕ
data_of f = words_of f.csdu

abbrev is_of : Entry → Fields → Bool
is_of e f = e.frame.0 == f.frame

put_entry : (now : Option (List ℕ)) (held : Held) → (put now held).entry ≡ held.entry
put_entry None held = refl
put_entry (Some words) held = refl

put_again : (now : Option (List ℕ)) (held : Held) (words : List ℕ) → with_words words (put now held) ≡ put (Some words) held
put_again None held words = refl
put_again (Some before) held words = refl

last_counts : (fs : List Fields) (held : Held) (o : Option Fields) →
    after_frames fs (put (option_map data_of o) held) ≡ put (option_map data_of (last_or o (filter (is_of held.entry) fs))) held
last_counts [] held o = refl
last_counts (f ∷ fs) held o =
    let now = put (option_map data_of o) held in
    let Rest : Bool → Option Fields = λ b. last_or o (if b then f ∷ filter (is_of held.entry) fs else filter (is_of held.entry) fs) in
    let entry : (now.entry.frame.0 == f.frame) ≡ is_of held.entry f = ap (λ (e : Entry). is_of e f) (put_entry (option_map data_of o) held) in
    elim (cases_Bool (is_of held.entry f)) [
      | inl so ↦
          ap (λ (b : Bool). after_frames fs (if b then with_words (data_of f) now else now)) (entry ∙ so)
          ∙ ap (after_frames fs) (put_again (option_map data_of o) held (data_of f))
          ∙ last_counts fs held (Some f)
          ∙ ap (λ (r : Option Fields). put (option_map data_of r) held) (sym (ap Rest so))
      | inr not ↦
          ap (λ (b : Bool). after_frames fs (if b then with_words (data_of f) now else now)) (entry ∙ not)
          ∙ last_counts fs held o
          ∙ ap (λ (r : Option Fields). put (option_map data_of r) held) (sym (ap Rest not))
    ]

frames_put : (fs : List Fields) (held : Held) → after_frames fs held ≡ put (came_by held.entry fs) held
frames_put fs held = last_counts fs held None

-- ---- many cycles

held_entry : (e : Entry) (came : ℕ → Option (List ℕ)) (n : ℕ) → (held_after e came n).entry ≡ e
held_entry e came zero = refl
held_entry e came (suc k) =
    ended_entry k (put (came k) (held_after e came k)) ∙ put_entry (came k) (held_after e came k) ∙ held_entry e came k

module _ (bundle : Bundle) (frames : ℕ → List Fields) where
  abbrev came_in : Entry → ℕ → Option (List ℕ)
  came_in e c = came_by e (frames c)

  abbrev entries : List Entry
  entries = consumed_of bundle.frames.entries

  cycle_is : (n : ℕ) → (consumer_after bundle frames n).cycle ≡ n
  cycle_is zero = refl
  cycle_is (suc k) = let before = frames_cycle (frames k) (consumer_after bundle frames k) ∙ cycle_is k in omega (arith, before)

  one_cycle : (k : ℕ) (e : Entry) →
      ended (with_frames (frames k) (consumer_after bundle frames k)).cycle (after_frames (frames k) (held_after e (came_in e) k)) ≡ held_after e (came_in e) (suc k)
  one_cycle k e =
      ap (λ n. ended n (after_frames (frames k) (held_after e (came_in e) k))) (frames_cycle (frames k) (consumer_after bundle frames k) ∙ cycle_is k)
      ∙ ap (ended k) (frames_put (frames k) (held_after e (came_in e) k))
      ∙ ap (λ (x : Entry). ended k (put (came_by x (frames k)) (held_after e (came_in e) k))) (held_entry e (came_in e) k)

  pub frames_are : (n : ℕ) → (consumer_after bundle frames n).frames ≡ map (λ e. held_after e (came_in e) n) entries
  frames_are zero = refl
  frames_are (suc k) =
      let state = with_frames (frames k) (consumer_after bundle frames k) in
      ap (map (ended state.cycle)) (frames_each (frames k) (consumer_after bundle frames k) ∙ ap (map (after_frames (frames k))) (frames_are k))
      ∙ ap (map (ended state.cycle)) (map_map (λ e. held_after e (came_in e) k) (after_frames (frames k)) entries)
      ∙ map_map (λ e. after_frames (frames k) (held_after e (came_in e) k)) (ended state.cycle) entries
      ∙ map_same (λ e. ended state.cycle (after_frames (frames k) (held_after e (came_in e) k))) (λ e. held_after e (came_in e) (suc k)) (one_cycle k) entries

  abbrev part_after : ℕ → Entry → List ℕ
  part_after k e = shown (held_after e (came_in e) (suc k))

  each_part : (k : ℕ) (es : List Entry) → AllZip (λ (e : Entry) (part : List ℕ). IsHeldOf (came_in e) e k part) es (map (part_after k) es)
  each_part k [] = tt
  each_part k (e ∷ es) = (held_of e (came_in e) k, each_part k es)

  held_image_suc : (k : ℕ) → IsHeldImage bundle frames k (image_in (consumer_after bundle frames (suc k)))
  held_image_suc k = record {
    parts = map (part_after k) entries;
    each = each_part k entries;
    joined =
        flat_map_concat shown (consumer_after bundle frames (suc k)).frames
        ∙ ap (λ hs. concat (map shown hs)) (frames_are (suc k))
        ∙ ap concat (map_map (λ e. held_after e (came_in e) (suc k)) shown entries);
  }

  pub held_image : (k : ℕ) → IsHeldImage bundle frames k (image_in (consumer_after bundle frames (k + 1)))
  held_image k =
      let one : k + 1 ≡ suc k = omega arith in
      subst (λ n. IsHeldImage bundle frames k (image_in (consumer_after bundle frames n))) (sym one) (held_image_suc k)
