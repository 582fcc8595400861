-- What the begin of a cycle and the release of its frames leave of a network.
use Rattle.std.proofs.Common.{◌≡◌, ℕ, zero, ◌+◌, ◌-◌, ◌<◌, List, [], ◌∷◌, length, map, suc, Some, option_map, slice_get, slice_index_or, get_or, inl, inr, refl, sym, ◌∙◌, ap, subst, arith, All}
use Rattle.std.proofs.lemmas.Bool.{cases_lt}
use Rattle.std.proofs.lemmas.List.{get_or_past}
use Rattle.std.proofs.lemmas.Option.{get_or_from_slice_get, same_Some, slice_get-get_or, slice_get_within}
use Rattle.irt_base.specs.Periods.{period_at}
use Rattle.irt_base.specs.Valid.{IsBundle}
use Rattle.irt_base.specs.declared.blocks.Bundle.{Bundle}
use Rattle.irt_base.specs.declared.blocks.Period.{Period}
use Rattle.irt_base.specs.declared.blocks.Side.TheVariants.{Tx}
use Rattle.irt_base.specs.declared.plants.Plant.{Plant}
use Rattle.irt_net.proofs.Periods.{tx_of}
use Rattle.irt_net.specs.Whole.{IsGated}
use Rattle.irt_switch.specs.Begin.{Begins, IsToRelease, begun_gate, parcel_limit}
use Rattle.irt_switch.specs.State.{HasPort, SwitchState, gate_of}
use Rattle.irt_world.specs.declared.rows.Row.{Row}
use Rattle.net_begin.specs.Begun.{HaveBegun, released}
use Rattle.net_begin.specs.Clocks.{keeps_step}
use Rattle.net_frames.proofs.Ended.{same_blocks}
use Rattle.net_frames.proofs.Starting.{at_mapped, mapped_at}
use Rattle.net_frames.specs.Begun.{AllHaveBegun}
use Rattle.net_parcels.specs.Loads.{HaveSameQueues, HoldGates}
use Rattle.net_parcels.specs.Parcels.{AllHaveOpened, HasOpened}
use Rattle.net_site.specs.Site.{bundles_of}
use Rattle.parcel_rules.specs.Loads.{Gates, gate_at}
use Rattle.period_gate.specs.Gate.{Waiting, nothing_waiting}

-- ---- lists by place

-- where another list is as long, it has something at each place
pub there : {A B : Type 0} (xs : List A) (ys : List B) (n : ℕ) (y : B) → length ys ≡ length xs → slice_get ys n ≡ Some y → (x : A) × (slice_get xs n ≡ Some x)
there [] (z ∷ ys) n y same at = absurd (omega arith)
there xs [] n y same at = absurd (cc)
there (x ∷ xs) (z ∷ ys) zero y same at = (x, refl)
there (x ∷ xs) (z ∷ ys) (suc n) y same at = there xs ys n y (omega arith) at

-- what is the same at each place is the same
pub same_map : {A B : Type 0} (f : A → B) (xs ys : List A) → length ys ≡ length xs →
    ((n : ℕ) (x y : A) → slice_get xs n ≡ Some x → slice_get ys n ≡ Some y → f y ≡ f x) → map f ys ≡ map f xs
same_map f [] [] same each = refl
same_map f [] (y ∷ ys) same each = absurd (omega arith)
same_map f (x ∷ xs) [] same each = absurd (omega arith)
same_map f (x ∷ xs) (y ∷ ys) same each =
    ap (λ z. z ∷ map f ys) (each 0 x y refl refl) ∙ ap (λ zs. f x ∷ zs) (same_map f xs ys (omega arith) (λ n v w. each (suc n) v w))

pub all_at : {A : Type 0} (P : A → Type 0) (xs : List A) (n : ℕ) (x : A) → All P xs → slice_get xs n ≡ Some x → P x
all_at P xs n x all at = subst P (get_or_from_slice_get xs n x x at) (all n x (slice_get_within xs n x at))

pub all_from : {A : Type 0} (P : A → Type 0) (xs : List A) → ((n : ℕ) (x : A) → slice_get xs n ≡ Some x → P x) → All P xs
all_from P xs each = λ n d below. each n (get_or xs n d) (slice_get-get_or xs n d below)

-- ---- the begin of a cycle

-- one switch, before and after
pub record IsBegunAt (plant : Plant) (row : Row) (k : ℕ) (old : List SwitchState) (device : ℕ) (s : SwitchState) : Type 0 where
  pub before : SwitchState
  pub at : slice_get old device ≡ Some before
  pub begins : Begins before k (keeps_step plant row device) s

module _ (plant : Plant) (row : Row) (k : ℕ) (old new : List SwitchState) (begun : HaveBegun plant row k old new) where
  pub begun_at : (device : ℕ) (s : SwitchState) → slice_get new device ≡ Some s → IsBegunAt plant row k old device s
  begun_at device s at =
      let (before, was) = there old new device s begun.count at in
      record { before = before; at = was; begins = begun.each device before s was at }

  pub blocks_begun : bundles_of new ≡ bundles_of old
  blocks_begun = same_map (λ (s : SwitchState). s.bundle) old new begun.count (λ n before after was is. (begun.each n before after was is).bundle)

  pub all_begun : AllHaveBegun plant row k new
  all_begun device s at =
      let b = begun_at device s at in
      record {
        cycle = b.begins.cycle;
        in_step = b.begins.in_step;
        release = subst (λ (x : Bundle). IsToRelease x k (keeps_step plant row device) s.left) (sym b.begins.bundle) b.begins.release;
      }

  pub gated_begun : All IsGated old → All IsGated new
  gated_begun gated = all_from IsGated new (λ n s at.
      let b = begun_at n s at in
      b.begins.gates.count ∙ all_at IsGated old n b.before gated b.at ∙ ap (λ (x : Bundle). length x.periods.ports) (sym b.begins.bundle))

  -- ---- its gates

  -- the gate at a place, where it is begun
  pub gate_begun : All IsGated old → All IsBundle (bundles_of old) → (device : ℕ) (s : SwitchState) → (b : IsBegunAt plant row k old device s) →
      (index : ℕ) → index < length b.before.gates →
      (tx : Period) × (period_at b.before.bundle.periods (index + 1) k Tx ≡ Some tx)
      × (slice_index_or s.gates index nothing_waiting ≡ begun_gate b.before.bundle tx (slice_index_or b.before.gates index nothing_waiting))
  gate_begun gated valid device s b index below =
      let fit = all_at IsGated old device b.before gated b.at in
      let block = all_at IsBundle (bundles_of old) device b.before.bundle valid (mapped_at (λ (x : SwitchState). x.bundle) old device b.before b.at) in
      let (tx, is) = tx_of b.before.bundle.periods (index + 1) k block.periods (omega arith, omega arith) in
      let at = b.begins.gates.each index tx below is in
      let was = slice_get-get_or b.before.gates index nothing_waiting below in (
        tx,
        is,
        get_or_from_slice_get s.gates index (begun_gate b.before.bundle tx (get_or b.before.gates index nothing_waiting)) nothing_waiting
            (at ∙ ap (option_map (begun_gate b.before.bundle tx)) was),
      )

  -- what waits at a port waits there still
  pub queues_begun : All IsGated old → All IsBundle (bundles_of old) → (device : ℕ) (s : SwitchState) → (b : IsBegunAt plant row k old device s) →
      (port : ℕ) → HaveSameQueues (gate_of s port) (gate_of b.before port)
  queues_begun gated valid device s b port =
      elim (cases_lt (port - 1) (length b.before.gates)) [
        | inl below ↦
            let (tx, is, same) = gate_begun gated valid device s b (port - 1) below in
            record { orange = ap (λ (w : Waiting). w.orange) same; green = ap (λ (w : Waiting). w.green) same }
        | inr past ↦
            let one = get_or_past b.before.gates (port - 1) nothing_waiting past in
            let count = b.begins.gates.count in
            let two = get_or_past s.gates (port - 1) nothing_waiting (omega arith) in
            record {
              orange = ap (λ (w : Waiting). w.orange) two ∙ sym (ap (λ (w : Waiting). w.orange) one);
              green = ap (λ (w : Waiting). w.green) two ∙ sym (ap (λ (w : Waiting). w.green) one);
            }
      ]

  -- ---- once all is released

  pub opened : All IsGated old → All IsBundle (bundles_of old) → AllHaveOpened plant row k (map released new)
  opened gated valid device t at =
      let (s, here, is) = at_mapped released new device t at in
      subst (HasOpened plant row k device) is (opens s (begun_at device s here))
    where
      opens : (s : SwitchState) → IsBegunAt plant row k old device s → HasOpened plant row k device (released s)
      opens s b = record {
        in_step = b.begins.in_step;
        period = λ port tx has is.
            let (ux, other, same) = gate_begun gated valid device s b (port - 1) (fits has) in
            let one : port - 1 + 1 ≡ port = omega (arith, has.0) in
            let periods : s.bundle ≡ b.before.bundle = b.begins.bundle in
            let twin : tx ≡ ux = same_Some tx ux (sym is ∙ ap (λ (x : Bundle). period_at x.periods port k Tx) periods ∙ ap (λ n. period_at b.before.bundle.periods n k Tx) (sym one) ∙ other) in
            ap (λ (w : Waiting). w.period) same ∙ sym twin;
        limit = λ port has.
            let (ux, other, same) = gate_begun gated valid device s b (port - 1) (fits has) in
            ap (λ (w : Waiting). w.limit) same ∙ ap (λ (x : Bundle). parcel_limit x.sync) (sym b.begins.bundle);
      }
        where
          fits : {port : ℕ} → HasPort s.bundle port → port - 1 < length b.before.gates
          fits {port} has =
              let fit = all_at IsGated old device b.before gated b.at in
              let same = ap (λ (x : Bundle). length x.periods.ports) b.begins.bundle in
              omega (arith, has.0, has.1)

  pub gates_held : All IsGated old → All IsBundle (bundles_of old) → (gates : Gates) → HoldGates plant old gates → HoldGates plant (map released new) gates
  gates_held gated valid gates hold at t among here =
      let (s, stands, is) = at_mapped released new at.0.0 t here in
      let b = begun_at at.0.0 s stands in
      let queues = queues_begun gated valid at.0.0 s b at.1.0 in
      let before = hold at b.before among b.at in
      subst (λ (x : SwitchState). HaveSameQueues (gate_of x at.1.0) (gate_at gates at)) is
      (record { orange = queues.orange ∙ before.orange; green = queues.green ∙ before.green })

  pub blocks_released : bundles_of (map released new) ≡ bundles_of old
  blocks_released = same_blocks new (map released new) refl ∙ blocks_begun

  pub gated_released : All IsGated old → All IsGated (map released new)
  gated_released gated = all_from IsGated (map released new) (λ n t at.
      let (s, here, is) = at_mapped released new n t at in
      subst IsGated is (all_at IsGated new n s (gated_begun gated) here))
