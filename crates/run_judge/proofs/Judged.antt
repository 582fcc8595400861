-- A record is legal where all is legal but the images, and the plant makes it again.
use Rattle.std.proofs.Common.{◌≡◌, ◌↔◌, ℕ, Bool, IfOk, IsTrue, List, Result, Ok, Err, length}
use Rattle.std.proofs.Common.{sym, ◌∙◌, ap, subst, arith}
use Rattle.std.proofs.lemmas.List.{length-map}
use Rattle.std.proofs.lemmas.Option.{slice_get_within}
use Rattle.irt_base.specs.declared.blocks.Bundle.{Bundle}
use Rattle.irt_base.specs.declared.memory.NoMemory.{NoMemory}
use Rattle.irt_base.specs.declared.numbers.PortNo.{PortNo}
use Rattle.irt_base.specs.declared.plants.Plant.{Plant}
use Rattle.irt_world.specs.Rows.{world_row, world_rows}
use Rattle.irt_world.specs.declared.rows.World.{World}
use Rattle.iso_rules.specs.Legal.{IsLegal}
use Rattle.iso_rules.specs.Lockstep.{AppLog}
use Rattle.iso_run.specs.Run.{IsRunJournal}
use Rattle.plan_rules.proofs.Held.{some_at}
use Rattle.plan_rules.specs.Plan.{setup_of}
use Rattle.record_text.specs.Text.{run_of}
use Rattle.record_text.specs.declared.record.Record.{Record}
use Rattle.run_replay.specs.Replayed.{HasShape, IsReplayed}
use Rattle.run_judge.specs.Kept.{AreLegalButImages, IsLegalButImages}

module _ {A : Type 0} (reply : A → List ℕ → ℕ → List ℕ) (next : A → List ℕ → ℕ → A) (plant : Plant)
    (bundles : List Bundle) (walks : List (List PortNo)) (world : World) (firsts : List A) (r : Record) where
  abbrev pub IsLegalRun : Type 0
  IsLegalRun =
      IsLegal reply next (setup_of plant bundles) (world_rows plant bundles world) firsts
      (IsRunJournal plant bundles walks world) (run_of r)

  abbrev IsKept : ℕ → ℕ → A → AppLog → Type 0
  IsKept = IsLegalButImages reply next (setup_of plant bundles)

  abbrev pub IsKeptRun : Type 0
  IsKeptRun = AreLegalButImages reply next (setup_of plant bundles) (length world.rows) firsts r.apps

  row_count : length (world_rows plant bundles world) ≡ length world.rows
  row_count = length-map world.rows (world_row plant bundles)

  kept_of : IsLegalRun → IsKeptRun
  kept_of legal n app state log is first at =
      let l = legal.apps n app state log is first at in
      subst (λ (k : ℕ). IsKept k app.device.0 state log) row_count
      (record {
        kept = record {
          numbers = record { each = l.cycles; numbers = l.numbers; pace = l.pace; windows = l.windows };
          words = record { outputs = l.outputs; inputs = l.inputs };
        };
        replies = l.replies;
      })

  replayed_of : length firsts ≡ length plant.apps → IsLegalRun → IsReplayed plant bundles walks world r
  replayed_of count legal = record {
    images = λ n app log is at.
        let within = slice_get_within plant.apps n app is in
        let (state, first) = some_at firsts n (omega (arith, within, count)) in
        (legal.apps n app state log is first at).images;
    journal = legal.journal;
  }

  legal_of : length firsts ≡ length plant.apps → length r.apps ≡ length plant.apps → IsKeptRun
      → IsReplayed plant bundles walks world r → IsLegalRun
  legal_of states count kept replayed = record {
    states = states;
    count = count;
    apps = λ n app state log is first at.
        let k = subst (λ (k : ℕ). IsKept k app.device.0 state log) (sym row_count)
        (kept n app state log is first at) in
        record {
          cycles = k.kept.numbers.each;
          outputs = k.kept.words.outputs;
          images = replayed.images n app log is at;
          inputs = k.kept.words.inputs;
          numbers = k.kept.numbers.numbers;
          pace = k.kept.numbers.pace;
          replies = k.replies;
          windows = k.kept.numbers.windows;
        };
    journal = replayed.journal;
  }

  -- an answer that says the one says the other, where the rest holds
  answered : (answer : Result Bool NoMemory) → length firsts ≡ length plant.apps → length r.apps ≡ length plant.apps
      → IsKeptRun → IfOk answer (λ b. IsTrue b ↔ IsReplayed plant bundles walks world r) → IfOk answer (λ b. IsTrue b ↔ IsLegalRun)
  answered (Err e) states count kept tells = tells
  answered (Ok b) states count kept tells =
      (λ yes. legal_of states count kept (tells.0 yes), λ legal. tells.1 (replayed_of states legal))

  module _ (cycles : ℕ) (logs : List AppLog) (rows : cycles ≡ length world.rows) (same : logs ≡ r.apps) where
    abbrev AreKept : ℕ → List AppLog → Type 0
    AreKept n found = AreLegalButImages reply next (setup_of plant bundles) n firsts found

    pub judged_where : (answer : Result Bool NoMemory) → length firsts ≡ length plant.apps
        → AreKept cycles logs → HasShape (setup_of plant bundles) cycles logs
        → IfOk answer (λ b. IsTrue b ↔ IsReplayed plant bundles walks world r)
        → IfOk answer (λ b. IsTrue b ↔ IsLegalRun)
    judged_where answer states kept shape tells =
        answered answer states (ap length (sym same) ∙ shape.count)
        (subst (λ (n : ℕ). AreKept n r.apps) rows (subst (AreKept cycles) same kept)) tells

    -- what is not kept is not legal
    pub refused_where : (P Q : Type 0) → ¬ P → ¬ Q → (P ↔ AreKept cycles logs) → Q ↔ IsLegalRun
    refused_where P Q fails wrong tells = (
      λ q. absurd (wrong q),
      λ legal.
          let kept = subst (λ (n : ℕ). AreKept n r.apps) (sym rows) (kept_of legal) in
          absurd (fails (tells.1 (subst (AreKept cycles) (sym same) kept))),
    )
