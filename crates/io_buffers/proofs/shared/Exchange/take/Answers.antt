use Rattle.std.proofs.Common.{◌∙◌, ◌∷◌, ℕ, Bool, not, nat_lt, List, sym, ap, arith}
use Rattle.io_buffers.specs.Steps.{steps_in, front_of, held_in, with_loads}
use Rattle.io_buffers.specs.declared.views.Made.{Made}
use Rattle.io_buffers.specs.declared.views.Made.TheVariants.{Ended}
use Rattle.io_buffers.proofs.Allowed.{allows_end}
use Rattle.io_buffers.proofs.StepLists.{front-loads, held-loads}
use Rattle.io_buffers.proofs.PassLemmas.{take_full, made_two, consumer_steps_are, taken_more, taken_steps, ended_counted, newer_than}
use Rattle.io_buffers.proofs.shared.Exchange.take.Goals as goal

pub load-last-requires : goal.load-last-requires
load-last-requires c =
    let es = steps_in c.args.pass.now.seat.me.0 in
    let looked = steps_in c.look-fresh.new.pass.seat.me.0 in
    let out = c.load_words.new.out in
    let look = c.look-fresh.ensures.steps in (
      c.load_words.ensures.own ∙ (c.look-fresh.ensures.own ∙ c.requires.own),
      omega (arith, c.args.self.now.sized),
      allows_end _ _ _ c.load_words.new.seat.me (with_loads 0 out looked) c.load_words.ensures.loaded
          (take_full es looked out look.0 look.1 _ look.3 (c.load_words.auto.out ∙ (c.requires.words ∙ sym c.args.self.now.keyed))),
    )

pub invariant_of-pass : goal.invariant_of-pass
invariant_of-pass c =
    let es = steps_in c.args.pass.now.seat.me.0 in
    let pass = c.look-fresh.new.pass in
    let looked = steps_in pass.seat.me.0 in
    let out = c.load_words.new.out in
    let look = c.look-fresh.ensures.steps in
    let on = made_two c.load_words.new.seat.me c.load-last.new.seat.me (Ended c.load-last.result) (with_loads 0 out looked) c.load_words.ensures.loaded c.load-last.ensures.2.0 in
    let are = consumer_steps_are c.load-last.new.seat.me _ on in
    record {
      seated = are.0;
      fronted = pass.fronted ∙ (sym (front-loads 0 out looked) ∙ sym (ap (λ (l : List Made). front_of l) are.1));
      slot = pass.slot;
      holds = pass.holds ∙ (sym (held-loads 0 out looked) ∙ sym (ap (λ (l : List Made). held_in l) are.1));
      counted = ended_counted es looked (steps_in c.load-last.new.seat.me.0) out c.load-last.result look.0 look.1 pass.taken _ look.3 are.1 pass.counted c.saturating_add-pass.ensures;
    }

pub returns-clause-taken : goal.returns-clause-taken
returns-clause-taken c =
    let es = steps_in c.args.pass.now.seat.me.0 in
    let pass = c.look-fresh.new.pass in
    let looked = steps_in pass.seat.me.0 in
    let out = c.load_words.new.out in
    let look = c.look-fresh.ensures.steps in
    let on = made_two c.load_words.new.seat.me c.load-last.new.seat.me (Ended c.load-last.result) (with_loads 0 out looked) c.load_words.ensures.loaded c.load-last.ensures.2.0 in
    let are = consumer_steps_are c.load-last.new.seat.me _ on in
    taken_more es looked (steps_in c.load-last.new.seat.me.0) out look.0 look.1 c.load-last.result pass.held c.look-fresh.result (not c.is_fresh.result)
    look.3 are.1 pass.holds look.2 (ap (λ (b : Bool). not b) c.is_fresh.ensures)

pub returns-clause-steps : goal.returns-clause-steps
returns-clause-steps c =
    let pass = c.look-fresh.new.pass in
    let looked = steps_in pass.seat.me.0 in
    let out = c.load_words.new.out in
    let look = c.look-fresh.ensures.steps in
    let on = made_two c.load_words.new.seat.me c.load-last.new.seat.me (Ended c.load-last.result) (with_loads 0 out looked) c.load_words.ensures.loaded c.load-last.ensures.2.0 in
    let are = consumer_steps_are c.load-last.new.seat.me _ on in
    record {
      first = look.0;
      swapped = look.1;
      last = c.load-last.result;
      steps = are.1 ∙ ap (λ (l : List Made). Ended c.load-last.result ∷ with_loads 0 out l) look.3;
      fresh = look.2;
      in_window = ap (λ (b : Bool). not b) c.is_fresh.ensures;
      newer = λ e. newer_than c.load_words.new.seat.me out looked pass.held c.load-last.result c.load_words.ensures.loaded pass.holds (c.load-last.ensures.2.1 e);
    }

pub returns-clause-rises : goal.returns-clause-rises
returns-clause-rises c = c.look-fresh.ensures.rises ∙ ap (λ (n : ℕ). nat_lt (held_in (steps_in c.args.pass.now.seat.me.0)) n) (sym c.look-fresh.new.pass.holds)

pub returns-clause-count : goal.returns-clause-count
returns-clause-count c =
    let es = steps_in c.args.pass.now.seat.me.0 in
    let looked = steps_in c.look-fresh.new.pass.seat.me.0 in
    let out = c.load_words.new.out in
    let look = c.look-fresh.ensures.steps in
    let on = made_two c.load_words.new.seat.me c.load-last.new.seat.me (Ended c.load-last.result) (with_loads 0 out looked) c.load_words.ensures.loaded c.load-last.ensures.2.0 in
    let are = consumer_steps_are c.load-last.new.seat.me _ on in
    taken_steps es looked (steps_in c.load-last.new.seat.me.0) out look.0 look.1 c.load-last.result _ look.3 are.1 c.load_words.auto.out
