-- The apps of a plant, of which the first ones are kept.
use Rattle.std.proofs.Common.{◌≡◌, ℕ, zero, suc, ◌+◌, ◌<◌, ◌↔◌, List, [], ◌∷◌, length, drop, slice_get, Some, sym}
use Rattle.std.proofs.Common.{◌∙◌, ap, subst, arith}
use Rattle.std.proofs.lemmas.List.{length-drop}
use Rattle.std.proofs.lemmas.Option.{same_Some, slice_get_within}
use borrow.Author.Count.{below_more}
use Rattle.irt_base.specs.declared.numbers.DevId.{DevId}
use Rattle.irt_base.specs.declared.plants.App.{App}
use Rattle.iso_rules.specs.Lockstep.{AppLog}
use Rattle.plan_rules.proofs.Held.{some_at}
use Rattle.plan_rules.specs.Way.{Setup}
use Rattle.run_replay.specs.Replayed.{HasAppShape, HasShape}
use Rattle.run_judge.specs.Kept.{AreLegalButImages, IsLegalButImages}

head_at : {X : Type 0} (xs rest : List X) (k : ℕ) (x : X) → x ∷ rest ≡ drop k xs → slice_get xs k ≡ Some x
head_at [] rest zero x e = absurd (cc)
head_at [] rest (suc k) x e = absurd (cc)
head_at (y ∷ ys) rest zero x e = (let h : y ≡ x = (cc) in ap (λ z. Some z) h)
head_at (y ∷ ys) rest (suc k) x e = head_at ys rest k x e

module _ {A : Type 0} (reply : A → List ℕ → ℕ → List ℕ) (next : A → List ℕ → ℕ → A) (setup : Setup) (cycles : ℕ)
    (firsts : List A) (logs : List AppLog) where
  -- what was tested of an app
  pub record IsKept (device : ℕ) (state : A) (log : AppLog) : Type 0 where
    pub legal : IsLegalButImages reply next setup cycles device state log
    pub shape : HasAppShape setup cycles device log

  abbrev pub IsKeptAt : ℕ → Type 0
  IsKeptAt n =
      (app : App) (state : A) (log : AppLog) → slice_get setup.plant.apps n ≡ Some app → slice_get firsts n ≡ Some state
      → slice_get logs n ≡ Some log → IsKept app.device.0 state log

  abbrev pub AreKeptBelow : ℕ → Type 0
  AreKeptBelow k = (n : ℕ) → n < k → IsKeptAt n

  pub kept_more : (k : ℕ) (state : A) (rest : List A) (device : DevId) (log : AppLog) → state ∷ rest ≡ drop k firsts
      → slice_get logs k ≡ Some log
      → ((x : App) → slice_get setup.plant.apps k ≡ Some x → device ≡ x.device)
      → IsKept device.0 state log → AreKeptBelow k → AreKeptBelow (k + 1)
  kept_more k state rest device log left at own kept so_far =
      below_more IsKeptAt k so_far
      (λ app other found is first stands.
      subst (λ (d : DevId). IsKept d.0 other found) (own app is)
      (subst (λ (s : A). IsKept device.0 s found)
      (same_Some state other (sym (head_at firsts rest k state left) ∙ first))
      (subst (λ (l : AppLog). IsKept device.0 state l) (same_Some log found (sym at ∙ stands)) kept)))

  pub all_kept : (k : ℕ) → length (drop k firsts) ≡ 0 → AreKeptBelow k
      → AreLegalButImages reply next setup cycles firsts logs
  all_kept k none so_far n app state log is first at =
      let within = slice_get_within firsts n state first in
      (so_far n (omega (arith, within, none, length-drop k firsts)) app state log is first at).legal

  pub all_shaped : (k : ℕ) → length firsts ≡ length setup.plant.apps → length logs ≡ length setup.plant.apps
      → length (drop k firsts) ≡ 0 → AreKeptBelow k → HasShape setup cycles logs
  all_shaped k states count none so_far = record {
    count = count;
    apps = λ n app log is at.
        let within = slice_get_within setup.plant.apps n app is in
        let (state, first) = some_at firsts n (omega (arith, within, states)) in
        (so_far n (omega (arith, within, states, none, length-drop k firsts)) app state log is first at).shape;
  }

  -- a test that says that this one isn't says so of all
  pub not_all : (k : ℕ) (state : A) (rest : List A) (device : DevId) (log : AppLog) (P Q : Type 0)
      → state ∷ rest ≡ drop k firsts → slice_get logs k ≡ Some log → k < length setup.plant.apps
      → ((x : App) → slice_get setup.plant.apps k ≡ Some x → device ≡ x.device)
      → (P ↔ IsLegalButImages reply next setup cycles device.0 state log) → ¬ P → ¬ Q
      → Q ↔ AreLegalButImages reply next setup cycles firsts logs
  not_all k state rest device log P Q left at within own tells fails wrong = (
    λ q. absurd (wrong q),
    λ all.
        let (x, is) = some_at setup.plant.apps k within in
        absurd (fails (tells.1
        (subst (λ (d : DevId). IsLegalButImages reply next setup cycles d.0 state log) (sym (own x is))
        (all k x state log is (head_at firsts rest k state left) at)))),
  )
