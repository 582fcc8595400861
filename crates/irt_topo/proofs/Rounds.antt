-- A table of what is reached, round by round.
use Rattle.std.proofs.Common.{◌≡◌, ◌<◌, ◌+◌, ℕ, Bool, true, false, ◌||◌, ◌==◌, List, [], ◌∷◌, get_or, set, replicate, inl, inr, refl, sym, ◌∙◌, ap, subst, add-one}
use Rattle.std.proofs.lemmas.Bool.{cases_eq, ne_eqb}
use Rattle.std.proofs.lemmas.List.{get_or-set_other, get_or-replicate}
use Rattle.std.specs.List.{AllByRecursion, list_any}
use Rattle.irt_base.specs.declared.plants.Link.{Link}
use Rattle.irt_base.specs.declared.plants.Plant.{Plant}
use Rattle.irt_topo.specs.Clocks.{joins, is_reached}

-- the table says of each device whether it is reached in so many rounds
abbrev pub Shows : Plant → ℕ → List Bool → Type 0
Shows p rounds reached = (d : ℕ) → d < 256 → get_or reached d false ≡ is_reached p rounds d

abbrev pub HasSmallEnds : Link → Type 0
HasSmallEnds l = (l.a.0 < 256) × (l.b.0 < 256)

joins_same : (f g : ℕ → Bool) (d : ℕ) (links : List Link) → ((e : ℕ) → e < 256 → f e ≡ g e) → AllByRecursion HasSmallEnds links
    → list_any (joins f d) links ≡ list_any (joins g d) links
joins_same f g d [] same small = refl
joins_same f g d (l ∷ ls) same small =
    rw (same l.a.0 small.0.0, same l.b.0 small.0.1, joins_same f g d ls same small.1) refl

pub Shows-next : (p : Plant) (rounds : ℕ) (before after : List Bool) → Shows p rounds before
    → ((d : ℕ) → get_or after d false ≡ (get_or before d false || list_any (joins (λ e. get_or before e false) d) p.links))
    → AllByRecursion HasSmallEnds p.links → Shows p (rounds + 1) after
Shows-next p rounds before after shows step small =
    λ d below.
    step d
    ∙ ap (λ b. b || list_any (joins (λ e. get_or before e false) d) p.links) (shows d below)
    ∙ ap (λ b. is_reached p rounds d || b) (joins_same (λ e. get_or before e false) (λ e. is_reached p rounds e) d p.links shows small)
    ∙ ap (λ n. is_reached p n d) (sym (add-one rounds))

-- the same, of a list that is the plant's
pub Shows-more : (p : Plant) (rounds : ℕ) (before after : List Bool) (links : List Link) → links ≡ p.links → Shows p rounds before
    → ((d : ℕ) → get_or after d false ≡ (get_or before d false || list_any (joins (λ e. get_or before e false) d) links))
    → AllByRecursion HasSmallEnds links → Shows p (rounds + 1) after
Shows-more p rounds before after links same shows step small =
    Shows-next p rounds before after shows
    (λ d. step d ∙ ap (λ ls. get_or before d false || list_any (joins (λ e. get_or before e false) d) ls) same)
    (subst (λ (ls : List Link). AllByRecursion HasSmallEnds ls) same small)

-- device 0 alone
pub first_shown : (d : ℕ) → d < 256 → get_or (set (replicate 256 false) 0 true) d false ≡ (d == 0)
first_shown d below =
    elim (cases_eq d 0) [
      | inl here ↦ rw here refl
      | inr other ↦
          get_or-set_other (replicate 256 false) 0 d true false other ∙ get_or-replicate 256 d false false below ∙ sym (ne_eqb d 0 other)
    ]
