-- Every state of every run is sound.
use Rattle.std.proofs.Common.{◌≡◌, ℕ, ◌+◌, ◌*◌, ◌<◌, Bool, true, false, nat_lt, if◌then◌else◌, List, [], ◌∷◌, ◌++◌, length, set, refl, sym, ap, ◌∙◌, arith}
use Rattle.std.proofs.Math.ListN.{length-set, get_or-append}
use Rattle.std.proofs.Math.Seq.{get_or-append_seam}
use Rattle.std.proofs.lemmas.List.{length-replicate, length-append}
use Rattle.std.proofs.lemmas.Bool.Decides.{nat_tests}
use Rattle.swap_core.specs.declared.steps.Step.{Step}
use Rattle.swap_core.specs.declared.steps.Step.TheVariants as steps
use Rattle.swap_core.specs.Machine.{row_of}
use Rattle.swap_core.specs.Runs.{State, start, next, run, publication, IsSound}
use Rattle.swap_core.proofs.Rows.{row_other, row_length, row_zeros, all_more}

pub never : {A : Type 0} → false ≡ true → A
never e = absurd (cc)

-- the newest publication stands at the end
pub newest_is : (ps : List (List ℕ)) (p : List ℕ) (n : ℕ) → length ps ≡ n → publication (ps ++ p ∷ []) n ≡ p
newest_is ps p n e = ap (λ (k : ℕ). publication (ps ++ p ∷ []) k) (sym e) ∙ get_or-append_seam ps p [] []

sound_store : (s : State) (place word : ℕ) (b : Bool) → nat_lt place s.slots.words ≡ b → IsSound s
    → IsSound (record { slots = if b then record s.slots { cells = set s.slots.cells (s.slots.words * s.slots.draft + place) word } else s.slots; published = s.published })
sound_store s place word false is h = h
sound_store s place word true is h =
    let inside : place < s.slots.words = grind (arith, nat_tests) in
    record {
      cells = length-set s.slots.cells (s.slots.words * s.slots.draft + place) word ∙ h.cells;
      front = h.front;
      middle = h.middle;
      draft = h.draft;
      front_middle = h.front_middle;
      middle_draft = h.middle_draft;
      draft_front = h.draft_front;
      count = h.count;
      held = h.held;
      front_row = row_other s.slots.cells s.slots.words s.slots.draft s.slots.front place word h.draft_front inside ∙ h.front_row;
      fresh = h.fresh;
      middle_row = λ f. row_other s.slots.cells s.slots.words s.slots.draft s.slots.middle place word (λ e. h.middle_draft (sym e)) inside ∙ h.middle_row f;
      ready = h.ready;
      widths = h.widths;
    }

sound_publish : (s : State) → IsSound s → IsSound (next s steps.Publish)
sound_publish s h =
    let last = row_of s.slots s.slots.draft in
    record {
      cells = h.cells;
      front = h.front;
      middle = h.draft;
      draft = h.middle;
      front_middle = λ e. h.draft_front (sym e);
      middle_draft = λ e. h.middle_draft (sym e);
      draft_front = λ e. h.front_middle (sym e);
      count = let n = length-append s.published (last ∷ []) in let c = h.count in omega arith;
      held = let n = h.held in omega arith;
      front_row = h.front_row ∙ sym (get_or-append s.published (last ∷ []) [] s.slots.held (let c = h.count in let n = h.held in omega arith));
      fresh = (λ e. let n = h.held in omega arith, λ e. refl);
      middle_row = λ e. sym (newest_is s.published last (s.slots.newest + 1) h.count);
      ready = λ e. refl;
      widths = all_more (λ (p : List ℕ). length p ≡ s.slots.words) s.published last h.widths (row_length s.slots.cells s.slots.words s.slots.draft h.cells h.draft);
    }

sound_probe : (s : State) → IsSound s → IsSound (next s steps.Probe)
sound_probe s h =
    record {
      cells = h.cells;
      front = h.front;
      middle = h.middle;
      draft = h.draft;
      front_middle = h.front_middle;
      middle_draft = h.middle_draft;
      draft_front = h.draft_front;
      count = h.count;
      held = h.held;
      front_row = h.front_row;
      fresh = h.fresh;
      middle_row = h.middle_row;
      ready = λ e. e;
      widths = h.widths;
    }

sound_take : (s : State) (b : Bool) → s.slots.ready ≡ b → IsSound s
    → IsSound (record { slots = if b then record s.slots { front = s.slots.middle; middle = s.slots.front; fresh = false; ready = false; held = s.slots.newest } else s.slots; published = s.published })
sound_take s false is h = h
sound_take s true is h =
    record {
      cells = h.cells;
      front = h.middle;
      middle = h.front;
      draft = h.draft;
      front_middle = λ e. h.front_middle (sym e);
      middle_draft = λ e. h.draft_front (sym e);
      draft_front = λ e. h.middle_draft (sym e);
      count = h.count;
      held = omega arith;
      front_row = h.middle_row (h.ready is);
      fresh = (λ e. never e, λ (e : s.slots.newest < s.slots.newest). absurd (omega arith));
      middle_row = λ e. never e;
      ready = λ e. never e;
      widths = h.widths;
    }

pub sound_next : (s : State) (e : Step) → IsSound s → IsSound (next s e)
sound_next s (steps.Store place word) h = sound_store s place word (nat_lt place s.slots.words) refl h
sound_next s steps.Publish h = sound_publish s h
sound_next s steps.Probe h = sound_probe s h
sound_next s steps.Take h = sound_take s s.slots.ready refl h
sound_next s (steps.Load place) h = h

pub sound_start : (m : ℕ) → IsSound (start m)
sound_start m =
    record {
      cells = length-replicate (3 * m) 0;
      front = omega arith;
      middle = omega arith;
      draft = omega arith;
      front_middle = λ e. omega arith;
      middle_draft = λ e. omega arith;
      draft_front = λ e. omega arith;
      count = refl;
      held = omega arith;
      front_row = row_zeros m;
      fresh = (λ e. never e, λ (e : 0 < 0). absurd (omega arith));
      middle_row = λ e. never e;
      ready = λ e. e;
      widths = (length-replicate m 0, tt);
    }

sound_from : (s : State) (es : List Step) → IsSound s → IsSound (run s es)
sound_from s [] h = h
sound_from s (e ∷ es) h = sound_from (next s e) es (sound_next s e h)

pub sound_run : (m : ℕ) (es : List Step) → IsSound (run (start m) es)
sound_run m es = sound_from (start m) es (sound_start m)
