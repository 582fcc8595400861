-- Texts of numbered items, item by item.
use Rattle.std.proofs.Common.{◌≡◌, ℕ, ◌+◌, ◌<◌, ◌≤◌, List, ◌++◌, length, get_or, drop, sym, ◌∙◌, append_assoc}
use Rattle.std.proofs.lemmas.List.{append-nil, at_drop_more, at_drop_all}
use Rattle.irt_show.specs.Show.{numbered}

-- the text of one item more, where the items from a place on are still to come
pub one_more : {A : Type 0} (text : ℕ → A → List ℕ) (before now whole : List ℕ) (xs : List A) (i number : ℕ) (x d : A)
    → now ≡ before ++ text number x → x ≡ get_or xs i d → i < length xs
    → before ++ numbered text number (drop i xs) ≡ whole
    → now ++ numbered text (number + 1) (drop (i + 1) xs) ≡ whole
one_more text before now whole xs i number x d e there inside all =
    rw (e, there, append_assoc before (text number (get_or xs i d)) (numbered text (number + 1) (drop (i + 1) xs)))
    (sym (at_drop_more (λ ys. before ++ numbered text number ys) xs i d inside) ∙ all)

-- no item is still to come
pub all_done : {A : Type 0} (text : ℕ → A → List ℕ) (now whole : List ℕ) (xs : List A) (i number : ℕ) → length xs ≤ i
    → now ++ numbered text number (drop i xs) ≡ whole → now ≡ whole
all_done text now whole xs i number past all = sym (append-nil now) ∙ sym (at_drop_all (λ ys. now ++ numbered text number ys) xs i past) ∙ all
