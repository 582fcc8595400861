use Rattle.std.proofs.Common.{◌≡◌, ◌∙◌, ◌+◌, ap, sym, subst, arith, ℕ, List, [], ◌∷◌, length}
use Rattle.std.specs.Vec.Iter.{into_iter_items}
use Rattle.std.proofs.lemmas.Grind.{common_steps}
use Rattle.std.proofs.lemmas.List.{length-append}
use Rattle.iso_rules.specs.declared.turn.Turn.{Turn}
use Rattle.free_end.specs.Closed.{AreParts}
use Rattle.free_end.specs.Ended.{HasLegalLog}
use Rattle.free_end.proofs.Parts.{each_more, parts_next}
use Rattle.free_end.proofs.ending.end_into.Goals as goal

pub loop-wire-preserved : goal.loop-wire-preserved
loop-wire-preserved g c =
    let old = c.loop-wire.all.items in
    let more = c.push_reserved.ensures.items in
    let plant = c.args.plant.now in
    let n : length c.push_reserved.new.self.items ≡ length old + 1 = ap (λ l. length l) more ∙ length-append old (c.end.result ∷ []) in
    let next = parts_next g.N.Naming.start plant (length old) _ c.in-Some.wire _ _ _ _ _ _ _ c.in-Some.ensures.steps.0 c.take_next-port.ensures c.take_next-job.ensures c.loop-wire.invariant.parts in
    record {
      parts = subst (λ (k : ℕ). AreParts g.N.Naming.start plant k (into_iter_items c.next.new.self) (into_iter_items c.take_next-port.new.rest) (into_iter_items c.take_next-job.new.rest)) (sym n) next.4;
      count = (let m = ap (λ l. length l) c.in-Some.ensures.steps.0 in let i = c.loop-wire.invariant.count in omega arith);
      room = grind (arith, common_steps);
      each = each_more (λ (app : ℕ) (turns : List Turn). HasLegalLog g.A.IsoApp.reply g.A.IsoApp.next_state g.N.Firsts.firsts plant app turns) old _ c.end.result [] more c.loop-wire.invariant.each
          (subst (λ (k : ℕ). HasLegalLog g.A.IsoApp.reply g.A.IsoApp.next_state g.N.Firsts.firsts plant k c.end.result) next.0 c.end.ensures);
    }
