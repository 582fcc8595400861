use Rattle.std.proofs.Common.{rules, ◌≡◌, ◌∙◌, ℕ, nat_lt, List, [], ◌∷◌, ◌++◌, refl, sym, ap}
use Rattle.std.specs.Prelude.{vec_len}
use Rattle.io_buffers.specs.Given.{given}
use Rattle.io_buffers.specs.Passes.{published_by}
use Rattle.iso_app.specs.Sealed.{sealed}
use Rattle.iso_rules.specs.declared.turn.Turn.{Turn}
use Rattle.free_plant.specs.Named.{output_width}
use Rattle.free_jobs.proofs.Turning.{job_turn}
use Rattle.free_jobs.proofs.jobs.Job.turn.Goals as goal

pub invariant_of-self-2 : goal.invariant_of-self-2
invariant_of-self-2 g c =
    let inside = c.self.inside in
    let taken = c.take_late-taken in
    let number = taken.result.number in
    let turn : Turn = record { found = c.args.found; taken = record { number = number; fresh = nat_lt inside.last number; in_window = taken.result.in_window }; input = c.from_vec.result; output = c.front.result } in
    let input : turn.input ≡ taken.new.out.items = c.from_vec.ensures in
    let seen : c.as_slice.result.now ≡ turn.input = c.as_slice.ensures.value ∙ sym input in
    let lengths : c.as_slice-2.result.now ≡ inside.lengths = c.as_slice-2.ensures in
    let words : vec_len c.reserve-2.new.self ≡ output_width g.N.Naming.start inside.number = search rules in
    let row : c.put_reply.new.row.items ≡ sealed inside.lengths (g.A.IsoApp.reply inside.app turn.input (output_width g.N.Naming.start inside.number)) ++ number ∷ [] =
    c.put_reply.ensures.row ∙ (λ i. sealed (lengths i) (g.A.IsoApp.reply inside.app (seen i) (words i)) ++ number ∷ []) in
    let out : turn.output ≡ sealed inside.lengths (g.A.IsoApp.reply inside.app turn.input (output_width g.N.Naming.start inside.number)) = c.front.ensures _ number row in
    job_turn g.A.IsoApp.reply g.A.IsoApp.next_state g.N.Firsts.firsts g.N.Naming.inputs g.N.Naming.outputs g.N.Naming.start inside.number
    inside.app _ inside.lengths inside.taker _ inside.giver _ inside.turns.items _ inside.found inside.last turn (given taken.result taken.new.out.items) c.self.invariant
    (c.push_reserved.ensures.items ∙ ap (λ l. l ++ turn ∷ []) c.reserve.ensures.items) taken.ensures.pass c.publish_output.ensures.pass taken.ensures.taken
    (record { number = refl; window = refl; words = input })
    (c.publish_output.ensures.published ∙ ap (λ (l : List ℕ). published_by inside.giver ++ l ∷ []) (c.as_slice-3.ensures.value ∙ (row ∙ ap (λ (l : List ℕ). l ++ number ∷ []) (sym out))))
    out
    (c.put_reply.ensures.next ∙ (λ i. g.A.IsoApp.next_state inside.app (seen i) (words i)))
    (search rules) (search rules) c.requires.within refl
