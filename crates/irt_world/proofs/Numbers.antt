-- A forwarding's number, by where its place parts the others.
use Rattle.std.proofs.Common.{◌≡◌, ◌≢◌, ℕ, ◌<◌, true, false, List, get_or, slice_get, Some, None, inl, inr, sym, ◌∙◌, ap₂, arith, ◌==◌, nat_lt}
use Rattle.std.specs.List.Sorted.{IsPartitionPoint}
use Rattle.std.proofs.lemmas.Bool.{eqb-true, eq-eqb, ltb-true, ltb-false, and_from, and_parts, cases_Bool, cases_lt}
use Rattle.std.proofs.lemmas.Option.{slice_get-get_or}
use Rattle.irt_world.specs.Forwardings.{is_at, number_in, place_of, AreInOrder}
use Rattle.irt_world.specs.declared.forwardings.Forwarding.{Forwarding}
use Rattle.irt_world.specs.declared.forwardings.TheConstants.{FRAMES}
use Rattle.irt_world.proofs.Places.{all_at, position_at, position_nowhere}

abbrev pub place : Forwarding → ℕ
place f = place_of f.device.0 f.frame.0

-- those before a number have places below the wanted one, and those from it on have not
abbrev pub Parts : List Forwarding → ℕ → ℕ → Type 0
Parts fs wanted n = IsPartitionPoint (λ f. nat_lt (place f) wanted ≡ true) (λ f. nat_lt (place f) wanted ≡ false) fs n

elsewhere : (device frame : ℕ) (f : Forwarding) → place f ≢ place_of device frame → is_at device frame f ≡ false
elsewhere device frame f differ =
    elim (cases_Bool (is_at device frame f)) [
      | inl there ↦
          let (same_device, same_frame) = and_parts (f.device.0 == device) (f.frame.0 == frame) there in
          absurd (differ (ap₂ place_of (eqb-true f.device.0 device same_device) (eqb-true f.frame.0 frame same_frame)))
      | inr other ↦ other
    ]

there : (device frame : ℕ) (f : Forwarding) → frame < FRAMES → f.frame.0 < FRAMES → place f ≡ place_of device frame → is_at device frame f ≡ true
there device frame f small small_there same =
    and_from (f.device.0 == device) (f.frame.0 == frame)
    (eq-eqb f.device.0 device (omega (arith, same, small, small_there)))
    (eq-eqb f.frame.0 frame (omega (arith, same, small, small_there)))

pub number_found : (fs : List Forwarding) (device frame wanted n : ℕ) (f : Forwarding) → AreInOrder fs → frame < FRAMES →
    wanted ≡ place_of device frame → Parts fs wanted n → slice_get fs n ≡ Some f → place f ≡ wanted → Some n ≡ number_in fs device frame
number_found fs device frame wanted n f ordered small is_wanted (below, above) is same =
    sym (position_at (is_at device frame) fs n f is
    (there device frame f small (all_at (λ x. x.frame.0 < FRAMES) fs n f ordered.frames is) (same ∙ is_wanted))
    (λ k d before. elsewhere device frame (get_or fs k d)
    (λ equal.
    let less = ltb-true (place (get_or fs k d)) wanted (below k d (omega arith) before) in
    omega (arith, less, equal, is_wanted))))

pub number_missing : (fs : List Forwarding) (device frame wanted n : ℕ) → AreInOrder fs → wanted ≡ place_of device frame →
    Parts fs wanted n → ((f : Forwarding) → slice_get fs n ≡ Some f → place f ≢ wanted) → None ≡ number_in fs device frame
number_missing fs device frame wanted n ordered is_wanted (below, above) differ =
    sym (position_nowhere (is_at device frame) fs
    (λ k d within. elsewhere device frame (get_or fs k d)
    (λ equal. elim (cases_lt k n) [
      | inl before ↦
          let less = ltb-true (place (get_or fs k d)) wanted (below k d (omega arith) before) in
          omega (arith, less, equal, is_wanted)
      | inr after ↦
          let least = ltb-false (place (get_or fs n d)) wanted (above n d (omega arith) (omega arith)) in
          let rises = ordered.places n k d after within in
          differ (get_or fs n d) (slice_get-get_or fs n d (omega arith)) (omega (arith, least, rises, equal, is_wanted))
    ])))
