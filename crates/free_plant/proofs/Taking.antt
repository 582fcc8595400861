-- What taking from all apps makes of their ports.
use Rattle.std.specs.Prelude.{Option, slice_set}
use Rattle.std.proofs.Common.{◌≡◌, ◌≢◌, inl, inr, ℕ, zero, suc, ◌<◌, ◌≤◌, true, false, List, [], ◌∷◌, length, get_or, sym, ap, ◌∙◌, subst, arith}
use Rattle.std.proofs.lemmas.Bool.{cases_eq, cases_lt}
use Rattle.std.proofs.lemmas.List.{get_or-set_same, get_or-set_other, length-set, append-nil}
use Rattle.io_buffers.specs.Given.{Given}
use Rattle.iso_plant.specs.Replay.{PlantView}
use Rattle.free_plant.specs.Buffers.{BufferView, IsFilled, buffer_at, new_buffer}
use Rattle.free_plant.specs.Named.{app_count}
use Rattle.free_plant.specs.Taking.{HaveTaken, IsBuffered}
use Rattle.free_plant.specs.Ties.{HasWidths, TookMore}
use Rattle.free_plant.specs.Views.{PortView, new_port, port_at, with_takes}

-- an item that a list has at a place, whatever stands for one that isn't there
pub item_is : {X : Type 0} (xs : List X) (n : ℕ) (x d : X) → n < length xs → x ≡ get_or xs n x → x ≡ get_or xs n d
item_is [] n x d lt e = absurd (omega arith)
item_is (y ∷ xs) zero x d lt e = e
item_is (y ∷ xs) (suc n) x d lt e = item_is xs n x d (omega arith) e

module _ (start : Option PlantView) (k : ℕ) where
  took_none : (p q : PortView) → q ≡ p → TookMore p q
  took_none p q is = ([], is ∙ sym (ap (λ (l : List Given). record p { taken = l }) (append-nil p.taken)))

  took_one : (p q : PortView) (b : BufferView) → IsBuffered k p q b → TookMore p q
  took_one p q b r = (r.ready.take ∷ [], r.ready.taken)

  pub all_taken : (old new : List PortView) (buffers : List BufferView) (n : ℕ) → length new ≡ length old → length buffers ≡ app_count start
      → ((app : ℕ) → app < n → IsBuffered k (port_at old app) (port_at new app) (buffer_at buffers app)) → length old ≤ n
      → ((app : ℕ) → app < length buffers → HasWidths start app (buffer_at buffers app)) → HaveTaken start k old new buffers true
  all_taken old new buffers n ports_count buffers_count ready end widths = record {
    ports_count = ports_count;
    buffers_count = buffers_count;
    more = λ app lt. took_one _ _ _ (ready app (omega arith));
    widths = widths;
    ready = λ all app lt. ready app (omega arith);
  }

  filled_widths : (n : ℕ) (p q : PortView) (b c : BufferView) → IsFilled p q b c → HasWidths start n b → HasWidths start n c
  filled_widths n p q b c f w = record { output = f.words ∙ w.output; input = ap (λ (l : List ℕ). length l) f.image ∙ w.input }

  module _ (old ports : List PortView) (buffers : List BufferView) (n : ℕ) (p q : PortView) (b c : BufferView) (same : length ports ≡ length old)
      (ready : (app : ℕ) → app < n → IsBuffered k (port_at old app) (port_at ports app) (buffer_at buffers app))
      (rest : (app : ℕ) → n ≤ app → port_at ports app ≡ port_at old app) (below : n < length old) (held : p ≡ get_or ports n p) (filled : IsFilled p q b c) where
    more_here : TookMore (port_at old n) q
    more_here =
        let e : p ≡ port_at old n = item_is ports n p (new_port 0) (omega arith) held ∙ rest n (omega arith) in
        (filled.take ∷ [], filled.taken ∙ ap (λ (r : PortView). with_takes r (filled.take ∷ [])) e)

    more_other : (app : ℕ) → app ≢ n → TookMore (port_at old app) (port_at ports app)
    more_other app ne =
        elim (cases_lt app n) [
          | inl lt ↦ took_one _ _ _ (ready app lt)
          | inr le ↦ took_none (port_at old app) (port_at ports app) (rest app le)
        ]

    more_at : (app : ℕ) → TookMore (port_at old app) (port_at (slice_set ports n q) app)
    more_at app =
        elim (cases_eq app n) [
          | inl e ↦ subst (λ (m : ℕ). TookMore (port_at old m) (port_at (slice_set ports n q) m)) (sym e)
              (subst (λ (r : PortView). TookMore (port_at old n) r) (sym (get_or-set_same ports n q (new_port 0) (omega arith))) more_here)
          | inr ne ↦ subst (λ (r : PortView). TookMore (port_at old app) r) (sym (get_or-set_other ports n app q (new_port 0) ne)) (more_other app ne)
        ]

    widths_at : b ≡ get_or buffers n b → ((app : ℕ) → app < length buffers → HasWidths start app (buffer_at buffers app))
        → (app : ℕ) → app < length buffers → n < length buffers → HasWidths start app (buffer_at (slice_set buffers n c) app)
    widths_at kept widths app lt at =
        elim (cases_eq app n) [
          | inl e ↦ subst (λ (m : ℕ). HasWidths start m (buffer_at (slice_set buffers n c) m)) (sym e)
              (subst (λ (d : BufferView). HasWidths start n d) (sym (get_or-set_same buffers n c (new_buffer 0 0) at))
              (filled_widths n p q b c filled (subst (λ (d : BufferView). HasWidths start n d) (sym (item_is buffers n b (new_buffer 0 0) at kept)) (widths n at))))
          | inr ne ↦ subst (λ (d : BufferView). HasWidths start app d) (sym (get_or-set_other buffers n app c (new_buffer 0 0) ne)) (widths app lt)
        ]

    pub some_taken : length buffers ≡ app_count start → n < length buffers → b ≡ get_or buffers n b
        → ((app : ℕ) → app < length buffers → HasWidths start app (buffer_at buffers app)) → HaveTaken start k old (slice_set ports n q) (slice_set buffers n c) false
    some_taken count at kept widths = record {
      ports_count = length-set ports n q ∙ same;
      buffers_count = length-set buffers n c ∙ count;
      more = λ app lt. more_at app;
      widths = λ app lt. (let e = length-set buffers n c in widths_at kept widths app (omega arith) at);
      ready = λ all. absurd (cc);
    }
