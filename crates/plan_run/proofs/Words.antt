-- The words that a device consumes and provides, entry by entry.
use Rattle.std.proofs.Common.{◌≡◌, ◌≤◌, ℕ, ◌+◌, Bool, true, false, List, [], ◌∷◌, length, drop, get_or, ◌<◌, ◌*◌, if◌then◌else◌, sum_by, filter, refl, sym, ◌∙◌, ap, arith}
use Rattle.std.proofs.lemmas.List.{drop_all}
use Rattle.std.proofs.lemmas.List.Sums.{sum_by-cons, sum_by-drop_more}
use Rattle.irt_base.specs.declared.plants.App.{App}
use Rattle.irt_base.specs.declared.blocks.Entry.{Entry}
use Rattle.irt_switch.specs.Ports.{is_kept}
use Rattle.irt_switch.specs.Release.{is_provided}
use Rattle.iso_rules.specs.Station.{data_words, words_in, consumed_of, provided_of}
use Rattle.plan_run.specs.Size.{both_words}

chosen : {X : Type 0} (f : X → ℕ) (b : Bool) (x : X) (rest : List X) → sum_by f (if b then x ∷ rest else rest) ≡ (if b then f x else 0) + sum_by f rest
chosen f true x rest = sum_by-cons f x rest
chosen f false x rest = omega arith

-- the sum over those that pass
passing_sum : {X : Type 0} (f : X → ℕ) (p : X → Bool) (xs : List X) → sum_by f (filter p xs) ≡ sum_by (λ x. if p x then f x else 0) xs
passing_sum f p [] = refl
passing_sum f p (x ∷ xs) =
    chosen f (p x) x (filter p xs) ∙ ap (λ n. (if p x then f x else 0) + n) (passing_sum f p xs) ∙ sym (sum_by-cons (λ y. if p y then f y else 0) x xs)

shuffled : (a b s t u : ℕ) → s ≡ t + u → a + b + s ≡ a + t + (b + u)
shuffled a b s t u is = omega (arith, is)

two_sums : {X : Type 0} (f g : X → ℕ) (xs : List X) → sum_by (λ x. f x + g x) xs ≡ sum_by f xs + sum_by g xs
two_sums f g [] = refl
two_sums f g (x ∷ xs) =
    sum_by-cons (λ y. f y + g y) x xs
    ∙ shuffled (f x) (g x) (sum_by (λ y. f y + g y) xs) (sum_by f xs) (sum_by g xs) (two_sums f g xs)
    ∙ (λ i. sym (sum_by-cons f x xs) i + sym (sum_by-cons g x xs) i)

both_sums : (entries : List Entry) → sum_by both_words entries ≡ words_in (consumed_of entries) + words_in (provided_of entries)
both_sums entries =
    let kept = passing_sum data_words (λ (e : Entry). is_kept e.tx) entries in
    let own = passing_sum data_words is_provided entries in
    let two = two_sums (λ (e : Entry). if is_kept e.tx then data_words e else 0) (λ (e : Entry). if is_provided e then data_words e else 0) entries in
    two ∙ (λ i. sym kept i + sym own i)

-- all entries were counted
pub all_counted : (words at : ℕ) (entries : List Entry) → words + sum_by both_words (drop at entries) ≡ sum_by both_words entries → length entries ≤ at →
    words ≡ words_in (consumed_of entries) + words_in (provided_of entries)
all_counted words at entries is past =
    let none : sum_by both_words (drop at entries) ≡ 0 = ap (sum_by both_words) (drop_all at entries past) in
    let whole = both_sums entries in
    omega (arith, is, none, whole)

-- one more app was counted
pub app_counted : (f : App → ℕ) (apps : List App) (at words got limit : ℕ) (d : App) → (words + sum_by f (drop at apps) ≡ sum_by f apps) × (words ≤ at * limit) →
    at < length apps → got ≡ f (get_or apps at d) → got ≤ limit →
    (words + got + sum_by f (drop (at + 1) apps) ≡ sum_by f apps) × (words + got ≤ (at + 1) * limit)
app_counted f apps at words got limit d kept within is small =
    let first = kept.0 in
    let low = kept.1 in
    let next = sum_by-drop_more f apps at d within in
    let more : (at + 1) * limit ≡ at * limit + limit = grind arith in (omega (arith, first, next, is), omega (arith, low, more, small))
