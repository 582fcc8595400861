-- Steps that end with one status, though their texts may differ.
use Rattle.std.proofs.Common.{◌≡◌, inl, inr, ℕ, List, Option, Some, None, Result, Ok, Err, sym, ◌∙◌, ap, subst}
use Rattle.irt_io.specs.Files.{Files}
use Rattle.irt_steps.specs.Ended.{ended}
use Rattle.irt_steps.specs.Steps.{Ending, Steps, gives, asks, after, Comes, IsOneWay}
use Rattle.irt_steps.proofs.OneWay.{AreAlike, AreToldAlike, comes_alike}
use Rattle.irt_steps.proofs.StepLemmas.{comes_by, value, stopped, ok_same}

-- Over files that are alike, wherever the steps lead, they end with one status.
abbrev pub HasOneStatus : Steps (List ℕ) → Type 0
HasOneStatus steps = (f g : Files) → AreAlike f g → (m n : Option Files) (r s : Result (List ℕ) Ending) → Comes steps (Some f) m r → Comes steps (Some g) n s →
    (ended r).status ≡ (ended s).status

abbrev status : Result (List ℕ) Ending → ℕ
status r = (ended r).status

pub one_way_status : (steps : Steps (List ℕ)) → IsOneWay steps → HasOneStatus steps
one_way_status steps one f g alike m n r s first second = ap status (comes_alike steps f g m n r s one alike first second).0

-- a question whose answer is the text
pub asks_status : (P : List ℕ → Type 0) → HasOneStatus (asks P (λ text. gives text))
asks_status P f g alike m n r s (b, holds, (is, kept)) (c, also, (so, too)) = ap status is ∙ sym (ap status so)

-- ---- one way, and then one status

err_same : {A : Type 0} {d e : Ending} → stopped {A = A} d ≡ stopped {A = A} e → d ≡ e
err_same is = cc

no_value : {A : Type 0} (x : A) (e : Ending) → value x ≡ stopped e → ⊥
no_value x e is = absurd cc

module _ {A : Type 0} (steps : Steps A) (next : A → Steps (List ℕ)) (one : IsOneWay steps) (later : (x : A) → HasOneStatus (next x)) where
  both_on : (x y : A) (l m n o : Option Files) (r s : Result (List ℕ) Ending) → y ≡ x → AreToldAlike l m → Comes (next x) l n r → Comes (next y) m o s → status r ≡ status s
  both_on x y None m n o r s same alike first second = absurd alike
  both_on x y (Some f) None n o r s same alike first second = absurd alike
  both_on x y (Some f) (Some g) n o r s same alike first second =
      later x f g alike n o r s first (subst (λ z. Comes (next z) (Some g) o s) same second)

  pub after_status : HasOneStatus (after steps next)
  after_status f g alike m n r s first second = elim (comes_by steps next (Some f) m r first) [
    | inl (x, mid, here, on) ↦ elim (comes_by steps next (Some g) n s second) [
      | inl (y, between, there, also) ↦
          let same = comes_alike steps f g mid between (Ok x) (Ok y) one alike here there in
          both_on x y mid between m n r s (ok_same (sym same.0)) same.1 on also
      | inr (e, there, so) ↦ absurd (no_value x e (comes_alike steps f g mid n (Ok x) (Err e) one alike here there).0)
    ]
    | inr (d, here, is) ↦ elim (comes_by steps next (Some g) n s second) [
      | inl (y, between, there, also) ↦ absurd (no_value y d (sym (comes_alike steps f g m between (Err d) (Ok y) one alike here there).0))
      | inr (e, there, so) ↦
          ap status is ∙ ap (λ (x : Ending). x.status) (err_same (comes_alike steps f g m n (Err d) (Err e) one alike here there).0) ∙ sym (ap status so)
    ]
  ]
