-- Parcels are handed over one after the other, by the switches as by the rules.
use Rattle.std.proofs.Common.{◌≡◌, ℕ, zero, suc, ◌+◌, ◌*◌, ◌/◌, ◌%◌, ◌<◌, ◌≤◌, Bool, true, false, List, [], ◌∷◌, ◌++◌, length, map, take, drop, get_or, Some, refl, sym, ◌∙◌, ap, subst, arith, slice_get, length-append}
use Rattle.std.specs.Prelude.{fold, flat_map, ◌==◌, if◌then◌else◌, sum_by}
use Rattle.std.specs.List.{range_with_len, enumerate_from}
use Rattle.std.proofs.lemmas.List.{length-map, map-append}
use Rattle.std.proofs.lemmas.List.FromFn.{length-range_with_len, length-enumerate_from, get_or-enumerate_from}
use Rattle.std.proofs.lemmas.Grind.{common_steps}
use Rattle.std.proofs.lemmas.List.Sums.{fold-append, sum_by-append}
use Rattle.std.proofs.lemmas.Option.{slice_get_within, get_or_from_slice_get}
use Rattle.irt_base.specs.declared.blocks.Bundle.{Bundle}
use Rattle.irt_base.specs.declared.numbers.PortNo.{PortNo}
use Rattle.irt_base.specs.declared.plants.Plant.{Plant}
use Rattle.irt_base.specs.declared.plants.Traffic.{Traffic}
use Rattle.irt_switch.specs.State.{SwitchState}
use Rattle.parcel_rules.specs.Loads.{Offers, hand_over}
use Rattle.parcel_rules.specs.Made.{parcel_of, handed_to, made_at_source, made_in}
use Rattle.parcel_rules.specs.Steps.{Step}
use Rattle.parcel_rules.specs.declared.handed.Handed.{Handed}
use Rattle.plan_rules.specs.World.{WorldRow}
use Rattle.net_parcels.proofs.Joined.{take_more, joined, flat_map_more}
use Rattle.net_parcels.specs.Gates.{HoldOffers, HoldSome, but_gates, all_but_gates}
use Rattle.net_parcels.specs.Loads.{AreStepsOf}
use Rattle.net_parcels.specs.Notes.{NotesState, noted}

-- What the rules have at first they have after these were handed over, whatever that is.
abbrev pub Follows : Plant → List (List Step) → ℕ → List SwitchState → NotesState → List SwitchState → NotesState → List Handed → Type 0
Follows plant steps k switches notes now noted hs =
    (bundles : List Bundle) (row : WorldRow) (walks : List (List PortNo)) (o : Offers) → AreStepsOf plant walks steps → HoldOffers plant bundles row k switches notes o →
    HoldOffers plant bundles row k now noted (fold (hand_over plant walks k) o hs)

-- all that is known once these were handed over
pub record HaveHanded (plant : Plant) (steps : List (List Step)) (k : ℕ) (switches : List SwitchState) (notes : NotesState) (now : List SwitchState) (notes_now : NotesState)
    (hs : List Handed) : Type 0 where
  pub rules : Follows plant steps k switches notes now notes_now hs
  pub kept : all_but_gates now ≡ all_but_gates switches
  pub few : noted notes_now ≤ noted notes + length hs
  pub room : notes_now.room ≡ notes.room

pub same_count : (old new : List SwitchState) → all_but_gates new ≡ all_but_gates old → length new ≡ length old
same_count old new kept = sym (length-map new but_gates) ∙ ap length kept ∙ length-map old but_gates

module _ (plant : Plant) (steps : List (List Step)) (k : ℕ) (switches : List SwitchState) (notes : NotesState) where
  pub none_handed : HaveHanded plant steps k switches notes switches notes []
  none_handed = record { rules = λ bundles row walks o are holds. holds; kept = refl; few = omega arith; room = refl }

  -- some of the rules' offers are held afterwards too: those of any walks with these steps
  pub still_some : (now : List SwitchState) (notes_now : NotesState) (hs : List Handed) → Follows plant steps k switches notes now notes_now hs →
      (walks : List (List PortNo)) → AreStepsOf plant walks steps → HoldSome plant k switches notes → HoldSome plant k now notes_now
  still_some now notes_now hs rules walks are (bundles, row, o, holds) =
      (bundles, row, fold (hand_over plant walks k) o hs, rules bundles row walks o are holds)

-- one of them, by what its handing over gives
pub one_handed : (plant : Plant) (steps : List (List Step)) (k : ℕ) (switches : List SwitchState) (notes : NotesState) (now : List SwitchState) (notes_now : NotesState) (h : Handed) →
    ((bundles : List Bundle) (row : WorldRow) (walks : List (List PortNo)) (o : Offers) → AreStepsOf plant walks steps → HoldOffers plant bundles row k switches notes o →
    HoldOffers plant bundles row k now notes_now (hand_over plant walks k o h)) →
    all_but_gates now ≡ all_but_gates switches → noted notes_now ≤ noted notes + 1 → notes_now.room ≡ notes.room →
    HaveHanded plant steps k switches notes now notes_now (h ∷ [])
one_handed plant steps k switches notes now notes_now h rules kept one room = record { rules = rules; kept = kept; few = one; room = room }

-- some, and then others
pub then_handed : (plant : Plant) (steps : List (List Step)) (k : ℕ) (switches now next : List SwitchState) (notes notes_now notes_next : NotesState) (hs more both : List Handed) →
    HaveHanded plant steps k switches notes now notes_now hs → HaveHanded plant steps k now notes_now next notes_next more → both ≡ hs ++ more →
    HaveHanded plant steps k switches notes next notes_next both
then_handed plant steps k switches now next notes notes_now notes_next hs more both first second is =
    subst (HaveHanded plant steps k switches notes next notes_next) (sym is) (record {
      rules = λ bundles row walks o are holds.
          subst (HoldOffers plant bundles row k next notes_next) (sym (fold-append (hand_over plant walks k) o hs more))
          (second.rules bundles row walks (fold (hand_over plant walks k) o hs) are (first.rules bundles row walks o are holds));
      kept = second.kept ∙ first.kept;
      few = (let a = first.few in let b = second.few in let c = length-append hs more in omega arith);
      room = second.room ∙ first.room;
    })

-- ---- lists that are gone through

pub all_taken : {A : Type 0} (xs : List A) (i : ℕ) → length xs ≤ i → take i xs ≡ xs
all_taken xs i end = grind (arith, common_steps)

pub few_taken : {A : Type 0} (xs : List A) (i : ℕ) → length (take i xs) ≤ i
few_taken [] zero = omega arith
few_taken [] (suc i) = omega arith
few_taken (x ∷ xs) zero = omega arith
few_taken (x ∷ xs) (suc i) = (let less = few_taken xs i in omega arith)

pub range_more : (a n : ℕ) → range_with_len a (n + 1) ≡ range_with_len a n ++ (a + n) ∷ []
range_more a zero = (let e : a ≡ a + 0 = omega arith in ap (λ x. x ∷ []) e)
range_more a (suc n) =
    (let e : (a + 1) + n ≡ a + suc n = omega arith in
    let one : suc n + 1 ≡ suc (n + 1) = omega arith in
    ap (range_with_len a) one ∙ ap (λ xs. a ∷ xs) (range_more (a + 1) n ∙ ap (λ x. range_with_len (a + 1) n ++ x ∷ []) e))

-- the first so many that an entry makes
abbrev pub made_first : ℕ → Traffic → ℕ → ℕ → List Handed
made_first number t first count = map (handed_to t.source) (map (parcel_of number t) (range_with_len first count))

pub made_more : (number : ℕ) (t : Traffic) (first count : ℕ) → made_first number t first (count + 1) ≡ made_first number t first count ++ handed_to t.source (parcel_of number t (first + count)) ∷ []
made_more number t first count =
    ap (λ xs. map (handed_to t.source) (map (parcel_of number t) xs)) (range_more first count)
    ∙ ap (map (handed_to t.source)) (map-append (parcel_of number t) (range_with_len first count) ((first + count) ∷ []))
    ∙ map-append (handed_to t.source) (map (parcel_of number t) (range_with_len first count)) (parcel_of number t (first + count) ∷ [])

pub made_count : (number : ℕ) (t : Traffic) (first count : ℕ) → length (made_first number t first count) ≡ count
made_count number t first count =
    length-map (map (parcel_of number t) (range_with_len first count)) (handed_to t.source) ∙ length-map (range_with_len first count) (parcel_of number t) ∙ length-range_with_len first count

abbrev pub no_handed : List Handed
no_handed = []

-- all of a cycle where the entry makes some, and none elsewhere
pub made_all : (k number : ℕ) (t : Traffic) → true ≡ (k % t.every == 0) → made_first number t (k / t.every * t.count) t.count ≡ made_at_source k number t
made_all k number t due = ap (λ (b : Bool). map (handed_to t.source) (if b then map (parcel_of number t) (range_with_len (k / t.every * t.count) t.count) else [])) due

pub made_none : (k number : ℕ) (t : Traffic) → false ≡ (k % t.every == 0) → no_handed ≡ made_at_source k number t
made_none k number t due = ap (λ (b : Bool). map (handed_to t.source) (if b then map (parcel_of number t) (range_with_len (k / t.every * t.count) t.count) else [])) due

-- ---- the loops' steps

module _ (plant : Plant) (steps : List (List Step)) (k : ℕ) (switches now next : List SwitchState) (notes notes_now notes_next : NotesState) where
  -- the next of a list
  pub next_handed : (all : List Handed) (i : ℕ) (h : Handed) → slice_get all i ≡ Some h →
      HaveHanded plant steps k switches notes now notes_now (take i all) → HaveHanded plant steps k now notes_now next notes_next (h ∷ []) →
      HaveHanded plant steps k switches notes next notes_next (take (i + 1) all)
  next_handed all i h is so_far one =
      then_handed plant steps k switches now next notes notes_now notes_next (take i all) (h ∷ []) (take (i + 1) all) so_far one
      (take_more all i h (slice_get_within all i h is) ∙ ap (λ x. take i all ++ x ∷ []) (get_or_from_slice_get all i h h is))

  -- the next that an entry makes
  pub next_made : (number : ℕ) (t : Traffic) (first place : ℕ) (h : Handed) → h ≡ handed_to t.source (parcel_of number t (first + place)) →
      HaveHanded plant steps k switches notes now notes_now (made_first number t first place) → HaveHanded plant steps k now notes_now next notes_next (h ∷ []) →
      HaveHanded plant steps k switches notes next notes_next (made_first number t first (place + 1))
  next_made number t first place h is so_far one =
      then_handed plant steps k switches now next notes notes_now notes_next (made_first number t first place) (h ∷ []) (made_first number t first (place + 1)) so_far one
      (made_more number t first place ∙ ap (λ x. made_first number t first place ++ x ∷ []) (sym is))

-- room for one of a list more
pub room_for_next : (plant : Plant) (steps : List (List Step)) (k : ℕ) (switches now : List SwitchState) (notes notes_now : NotesState) (all : List Handed) (i : ℕ) →
    HaveHanded plant steps k switches notes now notes_now (take i all) → i < length all → noted notes + length all ≤ notes.room → noted notes_now < notes_now.room
room_for_next plant steps k switches now notes notes_now all i have below fits =
    let few = have.few in let room = have.room in let taken = few_taken all i in omega arith

-- the whole list
pub whole_handed : (plant : Plant) (steps : List (List Step)) (k : ℕ) (switches now : List SwitchState) (notes notes_now : NotesState) (all : List Handed) (i : ℕ) →
    HaveHanded plant steps k switches notes now notes_now (take i all) → length all ≤ i → HaveHanded plant steps k switches notes now notes_now all
whole_handed plant steps k switches now notes notes_now all i have end =
    subst (HaveHanded plant steps k switches notes now notes_now) (all_taken all i end) have

-- all that an entry makes in a cycle in which it makes some
pub made_done : (plant : Plant) (steps : List (List Step)) (k : ℕ) (switches now : List SwitchState) (notes notes_now : NotesState) (number : ℕ) (t : Traffic) (place : ℕ) →
    HaveHanded plant steps k switches notes now notes_now (made_first number t (k / t.every * t.count) place) → place ≡ t.count → true ≡ (k % t.every == 0) →
    HaveHanded plant steps k switches notes now notes_now (made_at_source k number t)
made_done plant steps k switches now notes notes_now number t place have end due =
    subst (HaveHanded plant steps k switches notes now notes_now) (ap (made_first number t (k / t.every * t.count)) end ∙ made_all k number t due) have

-- ---- all entries

-- what an entry makes, by its number
abbrev pub entry_made : ℕ → ℕ × Traffic → List Handed
entry_made k entry = made_at_source k entry.0 entry.1

-- What the entries before a place make was handed over.
pub record HaveMade (plant : Plant) (steps : List (List Step)) (k : ℕ) (switches : List SwitchState) (notes : NotesState) (now : List SwitchState) (notes_now : NotesState) (place : ℕ) :
    Type 0 where
  pub rules : Follows plant steps k switches notes now notes_now (flat_map (entry_made k) (take place (enumerate_from 0 plant.traffic)))
  pub kept : all_but_gates now ≡ all_but_gates switches
  pub few : noted notes_now ≤ noted notes + sum_by (λ (t : Traffic). t.count) (take place plant.traffic)
  pub room : notes_now.room ≡ notes.room

pub none_made : (plant : Plant) (steps : List (List Step)) (k : ℕ) (switches : List SwitchState) (notes : NotesState) → HaveMade plant steps k switches notes switches notes 0
none_made plant steps k switches notes = record { rules = λ bundles row walks o are holds. holds; kept = refl; few = omega arith; room = refl }

counts_more : (xs : List Traffic) (i : ℕ) (t : Traffic) → i < length xs → t ≡ get_or xs i t →
    sum_by (λ (x : Traffic). x.count) (take (i + 1) xs) ≡ sum_by (λ (x : Traffic). x.count) (take i xs) + t.count
counts_more xs i t below is =
    ap (sum_by (λ (x : Traffic). x.count)) (take_more xs i t below) ∙ sum_by-append (λ (x : Traffic). x.count) (take i xs) (get_or xs i t ∷ [])
    ∙ ap (λ n. sum_by (λ (x : Traffic). x.count) (take i xs) + n) (count_alone (get_or xs i t) ∙ ap (λ (x : Traffic). x.count) (sym is))
  where
    count_alone : (x : Traffic) → sum_by (λ (y : Traffic). y.count) (x ∷ []) ≡ x.count
    count_alone x = omega arith

counts_within : (xs : List Traffic) (i : ℕ) (t : Traffic) → i < length xs → t ≡ get_or xs i t →
    sum_by (λ (x : Traffic). x.count) (take i xs) + t.count ≤ sum_by (λ (x : Traffic). x.count) xs
counts_within xs i t below is =
    let more = counts_more xs i t below is in
    let parts = ap (sum_by (λ (x : Traffic). x.count)) (sym (joined xs (i + 1))) in
    let sum = sum_by-append (λ (x : Traffic). x.count) (take (i + 1) xs) (drop (i + 1) xs) in
    omega arith

module _ (plant : Plant) (steps : List (List Step)) (k : ℕ) (switches now : List SwitchState) (notes notes_now : NotesState) (place : ℕ)
    (made : HaveMade plant steps k switches notes now notes_now place) where
  made_fits : (t : Traffic) → place < length plant.traffic → t ≡ get_or plant.traffic place t → noted notes + sum_by (λ (x : Traffic). x.count) plant.traffic ≤ notes.room →
      noted notes_now + t.count ≤ notes_now.room
  made_fits t below is fits =
      let within = counts_within plant.traffic place t below is in
      let few = made.few in
      let room = made.room in
      omega arith

  pub fits_entry : (t : Traffic) → slice_get plant.traffic place ≡ Some t → noted notes + sum_by (λ (x : Traffic). x.count) plant.traffic ≤ notes.room →
      noted notes_now + t.count ≤ notes_now.room
  fits_entry t is = made_fits t (slice_get_within plant.traffic place t is) (sym (get_or_from_slice_get plant.traffic place t t is))

  made_next : (next : List SwitchState) (notes_next : NotesState) (t : Traffic) (number : ℕ) → place < length plant.traffic → t ≡ get_or plant.traffic place t → number ≡ place →
      Follows plant steps k now notes_now next notes_next (made_at_source k number t) → all_but_gates next ≡ all_but_gates now → noted notes_next ≤ noted notes_now + t.count →
      notes_next.room ≡ notes_now.room → HaveMade plant steps k switches notes next notes_next (place + 1)
  made_next next notes_next t number below is named rules kept more room =
      let entries = length-enumerate_from 0 plant.traffic in
      let entry : get_or (enumerate_from 0 plant.traffic) place (place, t) ≡ (place, t) =
      get_or-enumerate_from 0 plant.traffic place (place, t) below ∙ (λ i. ((let e : 0 + place ≡ place = omega arith in e) i, sym is i)) in
      let list : flat_map (entry_made k) (take (place + 1) (enumerate_from 0 plant.traffic))
      ≡ flat_map (entry_made k) (take place (enumerate_from 0 plant.traffic)) ++ made_at_source k place t =
      flat_map_more (entry_made k) (enumerate_from 0 plant.traffic) place (place, t) (omega arith) (sym entry) in
      record {
        rules = λ bundles row walks o are holds.
            subst (λ hs. HoldOffers plant bundles row k next notes_next (fold (hand_over plant walks k) o hs)) (sym list)
            (subst (HoldOffers plant bundles row k next notes_next)
            (sym (fold-append (hand_over plant walks k) o (flat_map (entry_made k) (take place (enumerate_from 0 plant.traffic))) (made_at_source k place t)))
            (subst (λ n. HoldOffers plant bundles row k next notes_next
            (fold (hand_over plant walks k) (fold (hand_over plant walks k) o (flat_map (entry_made k) (take place (enumerate_from 0 plant.traffic)))) (made_at_source k n t))) named
            (rules bundles row walks _ are (made.rules bundles row walks o are holds))));
        kept = kept ∙ made.kept;
        few = (let first = made.few in let counts = counts_more plant.traffic place t below is in omega arith);
        room = room ∙ made.room;
      }

  pub next_entry : (next : List SwitchState) (notes_next : NotesState) (t : Traffic) → slice_get plant.traffic place ≡ Some t →
      Follows plant steps k now notes_now next notes_next (made_at_source k place t) → all_but_gates next ≡ all_but_gates now → noted notes_next ≤ noted notes_now + t.count →
      notes_next.room ≡ notes_now.room → HaveMade plant steps k switches notes next notes_next (place + 1)
  next_entry next notes_next t is = made_next next notes_next t place (slice_get_within plant.traffic place t is) (sym (get_or_from_slice_get plant.traffic place t t is)) refl

  pub made_whole : length plant.traffic ≤ place → Follows plant steps k switches notes now notes_now (made_in plant k)
  made_whole end =
      subst (λ (es : List (ℕ × Traffic)). Follows plant steps k switches notes now notes_now (flat_map (entry_made k) es))
      (all_taken (enumerate_from 0 plant.traffic) place (let entries = length-enumerate_from 0 plant.traffic in omega arith)) made.rules
