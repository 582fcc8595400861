use Rattle.std.proofs.Common.{rules, ◌≡◌, ◌∙◌, sym, ap, length, arith, subst, ◌≤◌, ℕ}
use Rattle.std.specs.Vec.Iter.{into_iter_items}
use Rattle.io_buffers.specs.Passes.{table_of}
use Rattle.free_jobs.specs.Jobs.{JobView}
use Rattle.free_plant.specs.Named.{app_count}
use Rattle.free_plant.specs.Ties.{HasWidths}
use Rattle.free_plant.specs.Views.{new_port}
use Rattle.iso_free.specs.Begun.{AreBegun}
use Rattle.iso_free.proofs.Begin.{get_named, get_opened, rest_end, rest_next}
use Rattle.iso_free.proofs.parts.part_all.Goals as goal

pub parts_of-requires-clause-first : goal.parts_of-requires-clause-first
parts_of-requires-clause-first g c = get_named (λ o. o.app) c.args.openings.items _ _ _ _ c.in-Some.opened _ c.requires.firsts (search rules) c.in-Some.ensures.steps.0 c.loop-opened.invariant.rest

pub parts_of-requires-clause-input : goal.parts_of-requires-clause-input
parts_of-requires-clause-input g c = get_named (λ o. table_of o.input.exchange) c.args.openings.items _ _ _ _ c.in-Some.opened _ c.requires.inputs (search rules) c.in-Some.ensures.steps.0 c.loop-opened.invariant.rest

pub parts_of-requires-clause-output : goal.parts_of-requires-clause-output
parts_of-requires-clause-output g c = get_named (λ o. table_of o.output.exchange) c.args.openings.items _ _ _ _ c.in-Some.opened _ c.requires.outputs (search rules) c.in-Some.ensures.steps.0 c.loop-opened.invariant.rest

pub parts_of-requires-clause-opened : goal.parts_of-requires-clause-opened
parts_of-requires-clause-opened g c = get_opened g.N.Naming.start c.args.openings.items _ _ _ c.in-Some.opened _ c.requires.opened (search rules) c.in-Some.ensures.steps.0 c.loop-opened.invariant.rest

pub add-requires-clause-wire : goal.add-requires-clause-wire
add-requires-clause-wire g c =
    let same : c.len-number.result ≡ length c.loop-opened.all.wires.items = search rules in
    c.parts_of.ensures.wire ∙ same

pub add-requires-clause-port : goal.add-requires-clause-port
add-requires-clause-port g c =
    let same : c.len-number.result ≡ length c.loop-opened.all.wires.items = search rules in
    c.parts_of.ensures.port ∙ ap new_port same

pub add-requires-clause-buffer : goal.add-requires-clause-buffer
add-requires-clause-buffer g c =
    let same : c.len-number.result ≡ length c.loop-opened.all.wires.items = search rules in
    subst (λ (k : ℕ). HasWidths g.N.Naming.start k c.parts_of.result.buffer) same c.parts_of.ensures.buffer

pub add-requires-clause-job : goal.add-requires-clause-job
add-requires-clause-job g c =
    let same : c.len-number.result ≡ length c.loop-opened.all.wires.items = search rules in
    ap (λ (j : JobView). j.number) c.parts_of.ensures.job ∙ same

pub loop-opened-init : goal.loop-opened-init
loop-opened-init g c =
    let n = c.in_ok-all.ensures.none in
    record {
      begun = c.in_ok-all.ensures.begun;
      count = omega arith;
      left = search rules;
      rest = search rules;
    }

pub loop-opened-preserved : goal.loop-opened-preserved
loop-opened-preserved g c =
    let i = c.loop-opened.invariant in
    let r = rest_next c.args.openings.items _ _ (length c.loop-opened.all.wires.items) (length c.add.new.self.wires.items) c.in-Some.opened c.in-Some.ensures.steps.0 i.rest c.in_ok-add.ensures.more in
    record {
      begun = c.in_ok-add.ensures.begun;
      count = r.1;
      left = (let s = c.in-Some.ensures.steps in let l = ap (λ l. length l) s.0 in let q = i.left in omega arith);
      rest = r.0;
    }

pub returns : goal.returns
returns g c =
    let i = c.loop-opened.invariant in
    let h = c.in-None.ensures.steps.0 in
    let z : length (into_iter_items c.loop-opened.opened-iterator) ≡ 0 = sym i.left ∙ h in
    let k : length c.args.openings.items ≤ length c.loop-opened.all.wires.items = rest_end c.args.openings.items _ (ap (λ l. length l) (sym i.rest) ∙ z) in
    let n : length c.loop-opened.all.wires.items ≡ app_count g.N.Naming.start = (let m = i.count in let o = c.requires.count in omega arith) in
    subst (λ (m : ℕ). AreBegun g.N.Naming.start m c.loop-opened.all.wires.items c.loop-opened.all.ports.items c.loop-opened.all.buffers.items c.loop-opened.all.jobs.items) n i.begun
