-- A demand's entries at one device take one way, in any ratios and phases.
use Rattle.std.proofs.Common.{◌≡◌, ℕ, zero, suc, inl, inr, sym, ◌∙◌, ap, arith}
use Rattle.std.specs.Prelude.{IsBitSet}
use Rattle.std.proofs.lemmas.Option.{same_Some}
use Rattle.irt_base.specs.declared.blocks.Entry.{Entry}
use Rattle.irt_base.specs.declared.numbers.DevId.{DevId}
use Rattle.irt_base.specs.declared.numbers.PortNo.{PortNo}
use Rattle.irt_base.specs.declared.plants.Demand.{Demand}
use Rattle.irt_base.specs.declared.plants.Plant.{Plant}
use Rattle.irt_route.specs.Trees.{Parents}
use Rattle.fit_rules.specs.Shape.{IsOn, IsEntryOf}
use Rattle.fit_rules.specs.Moves.{SharesWay}
use Rattle.fit_rules.proofs.Bytes.{same_bytes}

module _ (plant : Plant) (parents : Parents) (demand : Demand) where
  way_rx : (r p s q device : ℕ) (e g : Entry) → IsEntryOf plant parents demand r p device e → IsEntryOf plant parents demand s q device g →
      IsOn demand parents device → g.rx_port ≡ e.rx_port
  way_rx r p s q device e g first second (inl own) = second.provided own ∙ sym (first.provided own)
  way_rx r p s q device e g first second (inr (from, at)) =
      ap (λ (x : DevId × PortNo). x.1.0) (same_Some (let x : DevId × PortNo = (record { 0 = device }, record { 0 = g.rx_port }) in x) _
      (sym (second.received from at).leads ∙ (first.received from at).leads))

  way_bits : (r p s q device : ℕ) (e g : Entry) → IsEntryOf plant parents demand r p device e → IsEntryOf plant parents demand s q device g →
      (k : ℕ) → IsBitSet g.tx k → IsBitSet e.tx k
  way_bits r p s q device e g first second zero bit = first.kept.1 (second.kept.0 bit)
  way_bits r p s q device e g first second (suc k) bit = (first.sent (suc k) (omega arith)).1 ((second.sent (suc k) (omega arith)).0 bit)

  pub same_way : (r p s q device : ℕ) (e g : Entry) → IsEntryOf plant parents demand r p device e → IsEntryOf plant parents demand s q device g → SharesWay e g
  same_way r p s q device e g first second = record {
    length = second.length ∙ sym first.length;
    rx_port = way_rx r p s q device e g first second first.on;
    tx = same_bytes g.tx e.tx (λ k. (way_bits r p s q device e g first second k, way_bits s q r p device g e second first k));
  }
