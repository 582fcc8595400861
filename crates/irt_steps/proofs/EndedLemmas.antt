-- From the steps of a command to the way in which a call ends.
use Rattle.std.proofs.Common.{◌≡◌, ◌⊎◌, ℕ, List, Option, Some, Result, Ok, Err, inl, inr, refl, sym, ◌∙◌, ap, subst}
use Rattle.std.specs.Global.{Vec}
use Rattle.irt_io.specs.Files.{Files}
use Rattle.irt_steps.specs.declared.stop.Stop.{Stop}
use Rattle.irt_steps.specs.declared.stop.Stop.TheVariants as stops
use Rattle.irt_steps.specs.Steps.{Ending, ending, Steps, ends}
use Rattle.irt_steps.specs.Follow.{status_of, Follows, HasCause}
use Rattle.irt_steps.proofs.OneStatus.{HasOneStatus}
use Rattle.irt_steps.specs.Ended.{ended, Counts, IsOutcome, IsShelfFault, EndsAs, as_stated, shelf_failed, sink_failed, no_memory, no_text, PrintsAs, whole, failed, no_room, FinishesAs}

-- a text of the outcome was printed with its status
stated_prints : (steps : Steps (List ℕ)) (shelf sink : Counts) (old new : Option Files) (before after : Option (List ℕ)) (o : Ending) (status : ℕ) → IsOutcome steps old new o →
    PrintsAs o.status o.text sink before after status → EndsAs steps shelf sink old new before after status
stated_prints steps shelf sink old new before after o _ is (whole all) = as_stated o is all
stated_prints steps shelf sink old new before after o _ is (failed rose front) = sink_failed rose o.text (inl (o, is, refl)) front
stated_prints steps shelf sink old new before after o _ is (no_room front) = no_memory o.text (inl (o, is, refl)) front

-- the line of a fault of the shelf was printed
fault_prints : (steps : Steps (List ℕ)) (shelf sink : Counts) (old new : Option Files) (before after : Option (List ℕ)) (text : List ℕ) (status : ℕ) → IsShelfFault steps shelf old new text →
    PrintsAs 2 text sink before after status → EndsAs steps shelf sink old new before after status
fault_prints steps shelf sink old new before after text _ is (whole all) = shelf_failed text is all
fault_prints steps shelf sink old new before after text _ is (failed risen front) = sink_failed risen text (inr is) front
fault_prints steps shelf sink old new before after text _ is (no_room front) = no_memory text (inr is) front

-- a call ends as its steps and its printing do
pub finishes : (steps : Steps (List ℕ)) (result : Result (Vec ℕ) Stop) (shelf sink : Counts) (old new : Option Files) (before after : Option (List ℕ)) (status : ℕ) →
    Follows (λ (v : Vec ℕ). v.items) steps old new result → HasCause shelf.before shelf.now result → FinishesAs result sink before after status →
    EndsAs steps shelf sink old new before after status
finishes steps (Ok text) shelf sink old new before after status follows cause prints =
    stated_prints steps shelf sink old new before after (ending 0 text.items) status (record { answer = Ok text.items; comes = follows; is = refl }) prints
finishes steps (Err (stops.Ends why line)) shelf sink old new before after status follows cause prints =
    stated_prints steps shelf sink old new before after (ending (status_of why) line.items) status
    (record { answer = Err (ending (status_of why) line.items); comes = follows; is = refl }) prints
finishes steps (Err (stops.Fault line)) shelf sink old new before after status follows cause prints =
    fault_prints steps shelf sink old new before after line.items status (record { name = follows.0; rose = cause; fails = follows.2; is = follows.1 }) prints
finishes steps (Err stops.NoMemory) shelf sink old new before after status follows cause prints =
    subst (λ s. EndsAs steps shelf sink old new before after s) (sym prints.0) (no_text follows prints.1)

-- a call that only ends
pub ends_plainly : (e : Ending) (shelf sink : Counts) (old new : Option Files) (before after : Option (List ℕ)) (status : ℕ) →
    EndsAs (ends e) shelf sink old new before after status → (status ≡ e.status) ⊎ (status ≡ 12) ⊎ (status ≡ 13)
ends_plainly e shelf sink old new before after _ (as_stated o is appends) = inl (ap (λ (x : Ending). x.status) (is.is ∙ ap ended is.comes.0))
ends_plainly e shelf sink old new before after _ (shelf_failed text is appends) = absurd is.fails
ends_plainly e shelf sink old new before after _ (sink_failed rose text is front) = inr (inl refl)
ends_plainly e shelf sink old new before after _ (no_memory text is front) = inr (inr refl)
ends_plainly e shelf sink old new before after _ (no_text halts kept) = inr (inr refl)

-- where the steps end with one status, that of an outcome over files that are told is the call's
pub exact_of : (steps : Steps (List ℕ)) (shelf sink : Counts) (files : Files) (new : Option Files) (before after : Option (List ℕ)) (status : ℕ) →
    EndsAs steps shelf sink (Some files) new before after status → HasOneStatus steps → (o : Ending) (end : Option Files) → IsOutcome steps (Some files) end o →
    (status ≡ o.status) ⊎ (status ≡ 2) ⊎ (status ≡ 12) ⊎ (status ≡ 13)
exact_of steps shelf sink files new before after _ (as_stated e so appends) one o end is =
    inl (ap (λ (x : Ending). x.status) so.is ∙ one files files (λ name. refl) new end so.answer is.answer so.comes is.comes ∙ ap (λ (x : Ending). x.status) (sym is.is))
exact_of steps shelf sink files new before after _ (shelf_failed text so appends) one o end is = inr (inl refl)
exact_of steps shelf sink files new before after _ (sink_failed rose text so front) one o end is = inr (inr (inl refl))
exact_of steps shelf sink files new before after _ (no_memory text so front) one o end is = inr (inr (inr refl))
exact_of steps shelf sink files new before after _ (no_text halts kept) one o end is = inr (inr (inr refl))
