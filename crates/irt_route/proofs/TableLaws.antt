-- Look-ups in the tables of routes.
use Rattle.std.proofs.Common.{◌≡◌, ℕ, zero, suc, List, [], ◌∷◌, get_or, map, Option, Some, None, refl, sym, ◌∙◌, ap}
use Rattle.std.proofs.lemmas.Option.{get_or_from_slice_get, same_Some}
use Rattle.std.specs.List.{slice_get}
use Rattle.irt_base.specs.declared.numbers.DevId.{DevId}
use Rattle.irt_base.specs.declared.numbers.PortNo.{PortNo}
use Rattle.irt_route.specs.Trees.{Parents, parent_at}
use Rattle.irt_route.specs.Routes.{RouteTables, tree_parent, traffic_walk}

none_there : {A : Type 0} (xs : List A) (i : ℕ) (d : A) → slice_get xs i ≡ None → get_or xs i d ≡ d
none_there [] i d at = refl
none_there (x ∷ xs) zero d at = absurd cc
none_there (x ∷ xs) (suc i) d at = none_there xs i d at

pub parent_none : (trees : List Parents) (routes : RouteTables) (i demand device : ℕ) → trees ≡ routes.parents → i ≡ demand → None ≡ slice_get trees i
    → None ≡ tree_parent routes demand device
parent_none trees routes i demand device same here at =
    sym (ap (λ ts. parent_at (get_or ts demand []) device) (sym same) ∙ ap (λ d. parent_at (get_or trees d []) device) (sym here)
    ∙ ap (λ t. parent_at t device) (none_there trees i [] (sym at)))

pub parent_some : (trees : List Parents) (routes : RouteTables) (i demand device : ℕ) (tree : Parents) (parent : Option (DevId × PortNo))
    → trees ≡ routes.parents → i ≡ demand → Some tree ≡ slice_get trees i → parent ≡ parent_at tree device → parent ≡ tree_parent routes demand device
parent_some trees routes i demand device tree parent same here at is =
    is ∙ ap (λ t. parent_at t device) (sym (get_or_from_slice_get trees i tree [] (sym at)))
    ∙ ap (λ d. parent_at (get_or trees d []) device) here ∙ ap (λ ts. parent_at (get_or ts demand []) device) same

items_none : {W : Type 0} (items : W → List PortNo) (walks : List W) (i : ℕ) → slice_get walks i ≡ None → get_or (map items walks) i [] ≡ []
items_none items [] i at = refl
items_none items (w ∷ ws) zero at = absurd cc
items_none items (w ∷ ws) (suc i) at = items_none items ws i at

items_some : {W : Type 0} (items : W → List PortNo) (walks : List W) (i : ℕ) (walk : W) → slice_get walks i ≡ Some walk
    → get_or (map items walks) i [] ≡ items walk
items_some items [] i walk at = absurd cc
items_some items (w ∷ ws) zero walk at = ap items (same_Some w walk at)
items_some items (w ∷ ws) (suc i) walk at = items_some items ws i walk at

pub walk_none : (W : Type 0) (items : W → List PortNo) (walks : List W) (routes : RouteTables) (i traffic : ℕ) → map items walks ≡ routes.walks
    → i ≡ traffic → None ≡ slice_get walks i → [] ≡ traffic_walk routes traffic
walk_none W items walks routes i traffic same here at =
    sym (items_none items walks i (sym at)) ∙ ap (λ t. get_or (map items walks) t []) here ∙ ap (λ ws. get_or ws traffic []) same

pub walk_some : (W : Type 0) (items : W → List PortNo) (walks : List W) (routes : RouteTables) (i traffic : ℕ) (walk : W) (slice : List PortNo)
    → map items walks ≡ routes.walks → i ≡ traffic → Some walk ≡ slice_get walks i → slice ≡ items walk → slice ≡ traffic_walk routes traffic
walk_some W items walks routes i traffic walk slice same here at is =
    is ∙ sym (items_some items walks i walk (sym at)) ∙ ap (λ t. get_or (map items walks) t []) here ∙ ap (λ ws. get_or ws traffic []) same
