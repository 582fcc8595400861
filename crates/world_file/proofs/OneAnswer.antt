-- A file has one answer: a world or a first wrong line and place.
use Rattle.std.proofs.Common.{◌≡◌, ◌<◌, ◌+◌, ℕ, zero, suc, pos, Bool, true, false, if◌then◌else◌, List, [], ◌∷◌, ◌++◌, map, length, take, get_or, slice_get, All, Option, Some, None, Result, Ok, Err, refl, sym, ◌∙◌, ap, subst, arith, inl, inr}
use Rattle.std.specs.List.Sorted.{IsStrictlyIncreasing}
use Rattle.std.proofs.lemmas.Int.{ints}
use Rattle.std.proofs.lemmas.List.{length-map}
use Rattle.std.proofs.lemmas.Option.{none-some, same_Some, get_or_from_slice_get, slice_get_within}
use Rattle.irt_base.specs.declared.blocks.Bundle.{Bundle}
use Rattle.irt_base.specs.declared.plants.Plant.{Plant}
use Rattle.irt_world.specs.Forwardings.{forwardings}
use Rattle.irt_world.specs.Rows.{IsError, IsRowOf}
use Rattle.irt_world.specs.declared.rows.Row.{Row}
use Rattle.plan_rules.specs.Plan.{IsPlan}
use Rattle.world_file.specs.Reading.{empty_draft, line_read, next_place}
use Rattle.world_file.specs.Text.{Line, line_of, line_text}
use Rattle.world_file.specs.Wrong.{Ascends, BeginsWith, HasCounts, IsDelay, IsFirstWrongPlace, IsLinkNumber, IsWrongLine, IsWrongPlace}
use Rattle.world_file.specs.declared.draft.Draft.{Draft}
use Rattle.world_file.proofs.FirstWrong.{plain_at}
use Rattle.world_file.proofs.Judged.{Judgement, judged}
use Rattle.world_file.proofs.PlanBounds.{delays_small, few_links}
use Rattle.world_file.proofs.WholeLine.{line_again, line_taken, line_with}

value_at : {A : Type 0} (P : A → Type 0) (xs : List A) (n : ℕ) (x : A) → All P xs → slice_get xs n ≡ Some x → P x
value_at P xs n x all is = subst P (get_or_from_slice_get xs n x x is) (all n x (slice_get_within xs n x is))

ascending_tail : (m : ℕ) (ms : List ℕ) → IsStrictlyIncreasing (m ∷ ms) → (i : ℕ) → i + 1 < length ms → get_or ms i 0 < get_or ms (i + 1) 0
ascending_tail m ms ascending i below =
    let same : suc i + 1 ≡ suc (i + 1) = omega arith in
    subst (λ j. get_or ms i 0 < get_or (m ∷ ms) j 0) same (ascending (suc i) (omega arith))

first_below : (m : ℕ) (ms : List ℕ) → IsStrictlyIncreasing (m ∷ ms) → (n k : ℕ) → slice_get ms n ≡ Some k → m < k
first_below m [] ascending n k is = absurd (none-some k is)
first_below m (x ∷ xs) ascending zero k is =
    let start = ascending 0 (omega arith) in
    let same = same_Some x k is in
    omega (arith, start, same)
first_below m (x ∷ xs) ascending (suc n) k is =
    let start = ascending 0 (omega arith) in
    let more = first_below x xs (ascending_tail m (x ∷ xs) ascending) n k is in
    omega (arith, start, more)

-- each before a place of ascending numbers is less
less_before : (ns : List ℕ) (n k : ℕ) → IsStrictlyIncreasing ns → slice_get ns n ≡ Some k → Ascends (take n (map (λ m. pos m) ns)) (pos k)
less_before [] n k ascending is = absurd (none-some k is)
less_before (m ∷ ms) zero k ascending is = tt
less_before (m ∷ ms) (suc n) k ascending is =
    let below = first_below m ms ascending n k is in
    (omega (arith, ints, below), less_before ms n k (ascending_tail m ms ascending) is)

-- a row in range has no wrong place
none_wrong : (plant : Plant) (bundles : List Bundle) (row : Row) (place : ℕ) → IsRowOf plant bundles row → IsWrongPlace plant (forwardings plant bundles) (line_of row) place → ⊥
none_wrong plant bundles row place fits (inl e) = e.wrong (value_at IsError row.errors e.n e.z fits.errors e.is)
none_wrong plant bundles row place fits (inr (inl d)) =
    let (k, is, plain) = plain_at row.bridges d.n d.z d.is in
    let (low, high) = fits.bridges d.n d.f k d.forwarding is in
    d.wrong (subst (IsDelay d.f) (sym plain) (omega (arith, ints, low), omega (arith, ints, high)))
none_wrong plant bundles row place fits (inr (inr c)) =
    let (k, is, plain) = plain_at row.cuts c.n c.z c.is in
    let high = value_at (λ n. n < length plant.links) row.cuts c.n k fits.links is in
    let number : IsLinkNumber plant (pos k) = (omega (arith, ints), omega (arith, ints, high)) in
    c.wrong (subst (λ y. IsLinkNumber plant y × Ascends (take c.n (map (λ n. pos n) row.cuts)) y) (sym plain) (number, less_before row.cuts c.n k fits.ascending is))

-- a row is known by its line
plain_same : (ms ns : List ℕ) → map (λ n. pos n) ms ≡ map (λ n. pos n) ns → ms ≡ ns
plain_same [] [] same = refl
plain_same [] (n ∷ ns) same = absurd (cc)
plain_same (m ∷ ms) [] same = absurd (cc)
plain_same (m ∷ ms) (n ∷ ns) same =
    let head : m ≡ n = cc in
    let tail : map (λ k. pos k) ms ≡ map (λ k. pos k) ns = cc in
    ap (λ k. k ∷ ms) head ∙ ap (λ ks. n ∷ ks) (plain_same ms ns tail)

rows_same : (r s : Row) → line_of r ≡ line_of s → r ≡ s
rows_same r s same =
    let errors : r.errors ≡ s.errors = ap (λ (l : Line). l.errors) same in
    let bridges : r.bridges ≡ s.bridges = plain_same r.bridges s.bridges (ap (λ (l : Line). l.bridges) same) in
    let cuts : r.cuts ≡ s.cuts = plain_same r.cuts s.cuts (ap (λ (l : Line). l.cuts) same) in
    λ i. record { errors = errors i; bridges = bridges i; cuts = cuts i }

-- what is answered for the next line
abbrev pub answer_of : Option (Draft × List ℕ) → Result (Row × List ℕ) ℕ
answer_of None = Err 0
answer_of (Some x) = if x.0.is_wrong then Err (next_place x.0.row) else Ok (x.0.row, x.1)

abbrev pub next_line : Plant → List Bundle → List ℕ → Result (Row × List ℕ) ℕ
next_line plant bundles bytes = answer_of (line_read plant.devices (forwardings plant bundles) (length plant.links) empty_draft bytes)

judgement_of : (plant : Plant) (bundles : List Bundle) (l : Line) → IsPlan plant bundles → HasCounts plant (forwardings plant bundles) l →
    Judgement plant (forwardings plant bundles) l (line_with plant.devices (forwardings plant bundles) (length plant.links) l empty_draft)
judgement_of plant bundles l plan counts =
    let few = few_links plant plan.rules in
    judged plant (forwardings plant bundles) l counts (omega (arith, few)) (delays_small plant bundles plan)

again : (plant : Plant) (bundles : List Bundle) (l : Line) (rest : List ℕ) → HasCounts plant (forwardings plant bundles) l →
    line_read plant.devices (forwardings plant bundles) (length plant.links) empty_draft (line_text l ++ rest)
    ≡ Some (line_with plant.devices (forwardings plant bundles) (length plant.links) l empty_draft, rest)
again plant bundles l rest counts =
    line_again plant.devices (forwardings plant bundles) (length plant.links) l empty_draft rest (record { errors = counts.errors; bridges = counts.bridges })

row_answer : (plant : Plant) (bundles : List Bundle) (row : Row) (rest : List ℕ) (d : Draft) (wrong : Bool) → d.is_wrong ≡ wrong → IsRowOf plant bundles row →
    Judgement plant (forwardings plant bundles) (line_of row) d → answer_of (Some (d, rest)) ≡ Ok (row, rest)
row_answer plant bundles row rest d true is fits j = absurd (none_wrong plant bundles row (next_place d.row) fits (j.wrong is).wrong)
row_answer plant bundles row rest d false is fits j = rw is (ap (λ r. Ok (r, rest)) (rows_same d.row row (j.right is).line))

pub row_next : (plant : Plant) (bundles : List Bundle) (row : Row) (rest : List ℕ) → IsPlan plant bundles → IsRowOf plant bundles row →
    next_line plant bundles (line_text (line_of row) ++ rest) ≡ Ok (row, rest)
row_next plant bundles row rest plan fits =
    let counts : HasCounts plant (forwardings plant bundles) (line_of row) =
    record { errors = fits.error_count; bridges = length-map row.bridges (λ n. pos n) ∙ fits.bridge_count } in
    let d = line_with plant.devices (forwardings plant bundles) (length plant.links) (line_of row) empty_draft in
    ap answer_of (again plant bundles (line_of row) rest counts) ∙ row_answer plant bundles row rest d d.is_wrong refl fits (judgement_of plant bundles (line_of row) plan counts)

wrong_answer : (plant : Plant) (bundles : List Bundle) (l : Line) (rest : List ℕ) (place : ℕ) (d : Draft) (wrong : Bool) → d.is_wrong ≡ wrong →
    IsFirstWrongPlace plant (forwardings plant bundles) l place → Judgement plant (forwardings plant bundles) l d → answer_of (Some (d, rest)) ≡ Err place
wrong_answer plant bundles l rest place d true is first j =
    let there = j.wrong is in
    let here = first.first (next_place d.row) there.wrong in
    let back = there.first place first.wrong in
    let same : next_place d.row ≡ place = omega (arith, here, back) in
    rw is (ap (λ p. Err p) same)
wrong_answer plant bundles l rest place d false is first j =
    let kept = j.right is in
    absurd (none_wrong plant bundles d.row place (kept.fits bundles refl)
    (subst (λ k. IsWrongPlace plant (forwardings plant bundles) k place) (sym kept.line) first.wrong))

nothing_read : (plant : Plant) (bundles : List Bundle) (bytes : List ℕ) (read : Option (Draft × List ℕ)) →
    line_read plant.devices (forwardings plant bundles) (length plant.links) empty_draft bytes ≡ read →
    ((l : Line) → ¬ BeginsWith plant (forwardings plant bundles) bytes l) → answer_of read ≡ Err 0
nothing_read plant bundles bytes None is none = refl
nothing_read plant bundles bytes (Some x) is none =
    let taken = line_taken plant.devices (forwardings plant bundles) (length plant.links) empty_draft bytes x is in
    absurd (none taken.l (record { counts = record { errors = taken.counts.errors; bridges = taken.counts.bridges }; rest = x.1; text = taken.text }))

pub wrong_next : (plant : Plant) (bundles : List Bundle) (bytes : List ℕ) (place : ℕ) → IsPlan plant bundles → IsWrongLine plant (forwardings plant bundles) bytes place →
    next_line plant bundles bytes ≡ Err place
wrong_next plant bundles bytes place plan (inl (whole, none)) =
    nothing_read plant bundles bytes (line_read plant.devices (forwardings plant bundles) (length plant.links) empty_draft bytes) refl none ∙ ap (λ p. Err p) (sym whole)
wrong_next plant bundles bytes place plan (inr (l, begins, first)) =
    let d = line_with plant.devices (forwardings plant bundles) (length plant.links) l empty_draft in
    ap (next_line plant bundles) begins.text ∙ ap answer_of (again plant bundles l begins.rest begins.counts)
    ∙ wrong_answer plant bundles l begins.rest place d d.is_wrong refl first (judgement_of plant bundles l plan begins.counts)
