-- The definitions computed on one plan: device 0 counts and sends 0x100 to device 1, which sends what it has back as 0x101.
-- Clocks are exact, each frame has 40 bytes and is due in each cycle, and the link between them is cut in some.
use Rattle.std.proofs.Common.{◌≡◌, ℕ, zero, suc, ◌+◌, ◌%◌, ◌<◌, ◌≤◌, Bool, true, false, List, [], ◌∷◌, Option, Some, None, IfSome, IsSome, slice_get, replicate, inl, inr, refl, sym, ◌∙◌, ap, subst, arith, lit<}
use Rattle.std.specs.Prelude.{pos, option_map, position, find, map}
use Rattle.std.specs.List.{All}
use Rattle.std.proofs.lemmas.Bool.{cases_Bool}
use Rattle.std.proofs.lemmas.Int.{ints}
use Rattle.std.proofs.lemmas.Option.{same_Some}
use Rattle.irt_base.specs.Wiring.{touches, far_end, peer_of}
use Rattle.irt_base.specs.declared.blocks.Entry.{Entry}
use Rattle.irt_base.specs.declared.blocks.FrameBlock.{FrameBlock}
use Rattle.irt_base.specs.declared.blocks.PortDelay.{PortDelay}
use Rattle.irt_base.specs.declared.numbers.DevId.{DevId}
use Rattle.irt_base.specs.declared.numbers.PortNo.{PortNo}
use Rattle.irt_base.specs.declared.plants.AppName.TheVariants as names
use Rattle.irt_base.specs.declared.plants.Clocks.TheVariants as clocks
use Rattle.irt_base.specs.declared.plants.Demand.{Demand}
use Rattle.irt_base.specs.declared.plants.Device.{Device}
use Rattle.irt_base.specs.declared.plants.Link.{Link}
use Rattle.irt_base.specs.declared.plants.Mode.TheVariants as modes
use Rattle.irt_base.specs.declared.plants.Plant.{Plant}
use Rattle.iso_app.specs.Kinds.{reply_of, state_after}
use Rattle.iso_app.specs.declared.kinds.AppKind.{AppKind}
use Rattle.iso_app.specs.declared.kinds.AppKind.TheVariants.{Copy, Counter}
use Rattle.plan_rules.specs.Once.{HasToReach}
use Rattle.plan_rules.specs.Way.{Setup, entry_at, Leaves, IsParent, IsLive, provided, forwarded}
use Rattle.plan_rules.specs.World.{WorldRow, IsInStep, IsUncut}
use Rattle.iso_rules.specs.Hold.{due_after, IsHeldFrom, IsHeldOf, IsRecent, AgreesInRecent}
use Rattle.iso_rules.specs.Image.{loaded_words, IsPlannedCycle, IsImage, AreArrivals}
use Rattle.io_buffers.specs.Given.{Given}
use Rattle.iso_rules.specs.Legal.{KeepsUp, IsLegal}
use Rattle.iso_rules.proofs.LegalRuns.{lockstep_is_legal}
use Rattle.iso_rules.specs.Lockstep.{new_runs, after_takes, after_cycle, words_of_runs, IsLockstep, begun, played, log_of, IsLockstepRecord, AppLog}
use Rattle.iso_rules.specs.Turns.{AppRun}
use Rattle.iso_rules.specs.declared.turn.Turn.{Turn}
use Rattle.iso_rules.proofs.Holding.{due_past}

-- ---- the plan

abbrev delays : PortDelay
delays = record { tx = 100; rx = 200 }

abbrev device : ℕ → Device
device letter = record { name = letter ∷ []; mode = modes.Absolute; bmin = 1000; bmax = 3000; ports = delays ∷ [] }

abbrev demand : ℕ → ℕ → ℕ → Demand
demand frame from to = record { frame = record { 0 = frame }; provider = record { 0 = from }; consumers = record { 0 = to } ∷ []; length = 40; update = 1000000 }

abbrev wire : Link
wire = record { a = record { 0 = 0 }; a_port = record { 0 = 1 }; b = record { 0 = 1 }; b_port = record { 0 = 1 }; delay = 500 }

abbrev pair : Plant
pair = record {
  factor = 32;
  window = 1000;
  red_max = 250000;
  orange = 0;
  clocks = clocks.World;
  sync = record { send = 32; timeout = 6; drift = 0; stamp = 0; loss = 0 };
  devices = device 97 ∷ device 98 ∷ [];
  links = wire ∷ [];
  demands = demand 0x100 0 1 ∷ demand 0x101 1 0 ∷ [];
  traffic = [];
  apps = record { device = record { 0 = 0 }; kind = names.Counter; param = 0 } ∷ record { device = record { 0 = 1 }; kind = names.Copy; param = 0 } ∷ [];
}

abbrev entry : ℕ → ℕ → ℕ → Entry
entry frame rx_port tx = record { send_offset = 0; data_length = 40; ratio = 1; phase = 1; frame = record { 0 = frame }; rx_port = rx_port; tx = tx }

-- of a frame that is sent by port 1, and of one that is received there
abbrev own : ℕ → Entry
own frame = entry frame 0 2

abbrev leaf : ℕ → Entry
leaf frame = entry frame 1 1

abbrev block : Entry → Entry → FrameBlock
block first second = record { relative = false; entries = first ∷ second ∷ [] }

abbrev setup : Setup
setup = record { plant = pair; blocks = block (own 0x100) (leaf 0x101) ∷ block (leaf 0x100) (own 0x101) ∷ [] }

-- ---- routes

abbrev row : Bool → WorldRow
row cut = record { error = λ device. pos 0; bridge = λ device frame. 1000; is_cut = λ link. cut }

in_step : (cut : Bool) (device : ℕ) → IsInStep pair (row cut) device
in_step cut device = record { early = omega (arith, ints); late = omega (arith, ints) }

leaves : (frame : ℕ) → Leaves (own frame) 1
leaves frame = record { from_one = omega arith; bit = λ none. cc }

there : IsParent setup 0x100 1 (leaf 0x100) 0 1
there = record { received = omega arith; sent = (own 0x100, refl, leaves 0x100); leads = refl }

back : IsParent setup 0x101 0 (leaf 0x101) 1 1
back = record { received = omega arith; sent = (own 0x101, refl, leaves 0x101); leads = refl }

-- over the link as it is
each_cycle : (c : ℕ) → (c % 1) + 1 ≡ 1
each_cycle c = omega arith

reaches : (world : List WorldRow) (c : ℕ) → slice_get world c ≡ Some (row false) → HasToReach setup world c 1 0x100
reaches world c is = record {
  row = row false;
  demand = demand 0x100 0 1;
  in_cycle = is;
  due = record { own = own 0x100; demanded = refl; stands = refl; due = each_cycle c };
  consumed = (0, omega arith, refl);
  live = forwarded 1 (leaf 0x100) 0 1 refl there (provided 0 (own 0x100) refl refl (in_step false 0)) refl (in_step false 1);
}

returns : (world : List WorldRow) (c : ℕ) → slice_get world c ≡ Some (row false) → HasToReach setup world c 0 0x101
returns world c is = record {
  row = row false;
  demand = demand 0x101 1 0;
  in_cycle = is;
  due = record { own = own 0x101; demanded = refl; stands = refl; due = each_cycle c };
  consumed = (0, omega arith, refl);
  live = forwarded 0 (leaf 0x101) 1 1 refl back (provided 1 (own 0x101) refl refl (in_step false 1)) refl (in_step false 0);
}

-- and nothing over the cut one
abbrev number_where : Bool → Option ℕ
number_where touched = position (λ (link : Link). touched) (wire ∷ [])

abbrev end_where : ℕ → ℕ → Bool → Option (DevId × PortNo)
end_where parent port touched = option_map (far_end parent port) (find (λ (link : Link). touched) (wire ∷ []))

cut_off : (parent port : ℕ) (far : DevId × PortNo) → peer_of pair parent port ≡ Some far → ¬ IsUncut pair (row true) parent port
cut_off parent port far leads uncut =
    elim (cases_Bool (touches parent port wire)) [
      | inl so ↦ let no : true ≡ false = subst (λ b. IfSome (number_where b) (λ n. true ≡ false)) so uncut in absurd (cc)
      | inr not ↦ let none : None ≡ Some far = sym (ap (end_where parent port) not) ∙ leads in absurd (cc)
    ]

no_way : (device : ℕ) → device ≡ 1 → ¬ IsLive setup (row true) 0x100 device
no_way _ is (provided device e at own step) =
    let there : leaf 0x100 ≡ e = same_Some (leaf 0x100) e (subst (λ d. entry_at setup d 0x100 ≡ Some e) is at) in
    let one : 1 ≡ 0 = ap (λ (x : Entry). x.rx_port) there ∙ own in absurd (omega (arith, one))
no_way _ is (forwarded device e parent port at comes live uncut step) = cut_off parent port _ comes.leads uncut

blocked : (world : List WorldRow) (c : ℕ) → slice_get world c ≡ Some (row true) → ¬ HasToReach setup world c 1 0x100
blocked world c is reach =
    no_way 1 refl (subst (λ (w : WorldRow). IsLive setup w 0x100 1) (same_Some reach.row (row true) (sym reach.in_cycle ∙ is)) reach.live)

-- ---- the hold: the link is cut in the cycles 3 to 6

abbrev cut_world : List WorldRow
cut_world = row false ∷ row false ∷ row false ∷ row true ∷ row true ∷ row true ∷ row true ∷ row false ∷ []

-- in cycle k the counter's output is k, but all zeros in cycle 0
abbrev counted : ℕ → ℕ → List ℕ
counted app zero = 0 ∷ 0 ∷ 0 ∷ 0 ∷ 0 ∷ []
counted app (suc k) = (suc k) ∷ 0 ∷ 0 ∷ 0 ∷ 0x80 ∷ []

-- after cycle 4 what came in 2 is held
still_blocked : (n : ℕ) → 2 < n → n ≤ 6 → ¬ HasToReach setup cut_world n 1 0x100
still_blocked zero low high = absurd (omega arith)
still_blocked (suc zero) low high = absurd (omega arith)
still_blocked (suc (suc zero)) low high = absurd (omega arith)
still_blocked (suc (suc (suc zero))) low high = blocked cut_world 3 refl
still_blocked (suc (suc (suc (suc zero)))) low high = blocked cut_world 4 refl
still_blocked (suc (suc (suc (suc (suc zero))))) low high = blocked cut_world 5 refl
still_blocked (suc (suc (suc (suc (suc (suc zero)))))) low high = blocked cut_world 6 refl
still_blocked (suc (suc (suc (suc (suc (suc (suc n))))))) low high = absurd (omega arith)

planned_4 : IsPlannedCycle setup cut_world 1 (leaf 0x100) 4 2
planned_4 = record {
  reached = omega arith;
  comes = reaches cut_world 2 refl;
  last = λ later after within. still_blocked later after (omega arith);
  short = lit< tt;
}

image_4 : IsImage setup cut_world counted 1 4 (2 ∷ 0 ∷ 0 ∷ 0 ∷ 0x80 ∷ [])
image_4 = record {
  parts = (2 ∷ 0 ∷ 0 ∷ 0 ∷ 0x80 ∷ []) ∷ [];
  each = (inl (2, planned_4, refl), tt);
  joined = refl;
}

-- after cycle 5 nothing is, and all words are zeros
planned_5 : (c : ℕ) → ¬ IsPlannedCycle setup cut_world 1 (leaf 0x100) 5 c
planned_5 zero held = let short : 5 < 3 = held.short in omega (arith, short)
planned_5 (suc zero) held = let short : 4 < 3 = held.short in omega (arith, short)
planned_5 (suc (suc zero)) held = let short : 3 < 3 = held.short in omega (arith, short)
planned_5 (suc (suc (suc n))) held = still_blocked (suc (suc (suc n))) (omega arith) (let up = held.reached in omega arith) held.comes

image_5 : IsImage setup cut_world counted 1 5 (replicate 5 0)
image_5 = record { parts = replicate 5 0 ∷ []; each = (inr (planned_5, refl), tt); joined = refl }

-- after cycle 7 what came in it is
image_7 : IsImage setup cut_world counted 1 7 (7 ∷ 0 ∷ 0 ∷ 0 ∷ 0x80 ∷ [])
image_7 = record {
  parts = (7 ∷ 0 ∷ 0 ∷ 0 ∷ 0x80 ∷ []) ∷ [];
  each = (
    inl (7, record { reached = omega arith; comes = reaches cut_world 7 refl; last = λ later after within. absurd (omega arith); short = lit< tt }, refl),
    tt,
  );
  joined = refl;
}

-- ---- the lockstep run: the counter's turns, seen by the other device a cycle later, and by the counter two cycles later

abbrev whole_world : List WorldRow
whole_world = row false ∷ row false ∷ []

abbrev next_kind : AppKind → List ℕ → ℕ → AppKind
next_kind app input count = state_after app input

-- what came in a cycle is held after it
now_held : (world : List WorldRow) (k : ℕ) (device frame : ℕ) → HasToReach setup world k device frame →
    IsHeldFrom (λ c. HasToReach setup world c device frame) (leaf frame) k k
now_held world k device frame reach = record {
  reached = omega arith;
  comes = reach;
  last = λ later after within. absurd (omega arith);
  short = let none = due_past (leaf frame) k k (omega arith) in omega (arith, none);
}

abbrev first_states : List AppKind
first_states = Counter 0 ∷ Copy ∷ []

abbrev runs_0 : List (AppRun AppKind)
runs_0 = new_runs pair first_states

-- after cycle 0 all images are zeros
abbrev image_0 : ℕ → List ℕ
image_0 device = replicate 5 0

images_0 : All (λ (run : AppRun AppKind). IsImage setup whole_world (words_of_runs (after_takes setup 0 runs_0)) run.device 0 (image_0 run.device)) runs_0
images_0 zero d within = record {
  parts = replicate 5 0 ∷ [];
  each = (inl (0, now_held whole_world 0 0 0x101 (returns whole_world 0 refl), refl), tt);
  joined = refl;
}
images_0 (suc zero) d within = record {
  parts = replicate 5 0 ∷ [];
  each = (inl (0, now_held whole_world 0 1 0x100 (reaches whole_world 0 refl), refl), tt);
  joined = refl;
}
images_0 (suc (suc i)) d within = absurd (omega (arith, within))

abbrev runs_1 : List (AppRun AppKind)
runs_1 = after_cycle reply_of next_kind setup 0 image_0 runs_0

played_1 : IsLockstep reply_of next_kind setup whole_world first_states 1 runs_1
played_1 = played 0 runs_0 image_0 begun images_0

-- after cycle 1 the counter's first turn has come to device 1, and the sealed zeros of the other one's to device 0
abbrev image_1 : ℕ → List ℕ
image_1 zero = 0 ∷ 0 ∷ 0 ∷ 0 ∷ 0x80 ∷ []
image_1 (suc device) = 1 ∷ 0 ∷ 0 ∷ 0 ∷ 0x80 ∷ []

images_1 : All (λ (run : AppRun AppKind). IsImage setup whole_world (words_of_runs (after_takes setup 1 runs_1)) run.device 1 (image_1 run.device)) runs_1
images_1 zero d within = record {
  parts = (0 ∷ 0 ∷ 0 ∷ 0 ∷ 0x80 ∷ []) ∷ [];
  each = (inl (1, now_held whole_world 1 0 0x101 (returns whole_world 1 refl), refl), tt);
  joined = refl;
}
images_1 (suc zero) d within = record {
  parts = (1 ∷ 0 ∷ 0 ∷ 0 ∷ 0x80 ∷ []) ∷ [];
  each = (inl (1, now_held whole_world 1 1 0x100 (reaches whole_world 1 refl), refl), tt);
  joined = refl;
}
images_1 (suc (suc i)) d within = absurd (omega (arith, within))

played_2 : IsLockstep reply_of next_kind setup whole_world first_states 2 (after_cycle reply_of next_kind setup 1 image_1 runs_1)
played_2 = played 1 runs_1 image_1 played_1 images_1

-- what each published in its turns
put_out : map (λ (run : AppRun AppKind). map (λ (t : Turn). t.output) run.turns) (after_cycle reply_of next_kind setup 1 image_1 runs_1)
    ≡ ((1 ∷ 0 ∷ 0 ∷ 0 ∷ 0x80 ∷ []) ∷ (2 ∷ 0 ∷ 0 ∷ 0 ∷ 0x80 ∷ []) ∷ [])
    ∷ ((0 ∷ 0 ∷ 0 ∷ 0 ∷ 0x80 ∷ []) ∷ (1 ∷ 0 ∷ 0 ∷ 0 ∷ 0x80 ∷ []) ∷ [])
    ∷ []
put_out = refl

-- with ratio 2 and phase 1, in 2 cycles after 2, up to 7
every_second : due_after (record (own 0x100) { ratio = 2 }) 2 7 ≡ 2
every_second = refl

-- ---- what came, and what does not matter

-- the words that came over the cut link, cycle by cycle
abbrev came : ℕ → Option (List ℕ)
came zero = Some (replicate 5 0)
came (suc zero) = Some (1 ∷ 0 ∷ 0 ∷ 0 ∷ 0x80 ∷ [])
came (suc (suc zero)) = Some (2 ∷ 0 ∷ 0 ∷ 0 ∷ 0x80 ∷ [])
came (suc (suc (suc c))) = None

arrived_by_4 : AreArrivals setup cut_world counted 1 4 (leaf 0x100) came
arrived_by_4 = record { each = each; only = only }
  where
    each : (c : ℕ) → c ≤ 4 → HasToReach setup cut_world c 1 0x100 → came c ≡ Some (loaded_words setup counted c 0x100)
    each zero within reach = refl
    each (suc zero) within reach = refl
    each (suc (suc zero)) within reach = refl
    each (suc (suc (suc c))) within reach = absurd (still_blocked (suc (suc (suc c))) (omega arith) (omega arith) reach)

    only : (c : ℕ) → c ≤ 4 → IsSome (came c) → HasToReach setup cut_world c 1 0x100
    only zero within some = reaches cut_world 0 refl
    only (suc zero) within some = reaches cut_world 1 refl
    only (suc (suc zero)) within some = reaches cut_world 2 refl
    only (suc (suc (suc c))) within some = absurd (cc)

held_4 : IsHeldOf came (leaf 0x100) 4 (2 ∷ 0 ∷ 0 ∷ 0 ∷ 0x80 ∷ [])
held_4 = inl (2, record { reached = omega arith; comes = refl; last = none; short = lit< tt }, refl)
  where
    none : (later : ℕ) → 2 < later → later ≤ 4 → ¬ IsSome (came later)
    none zero after within some = omega arith
    none (suc zero) after within some = omega arith
    none (suc (suc zero)) after within some = omega arith
    none (suc (suc (suc c))) after within some = absurd (cc)

-- whether the link was cut in cycle 0 too, the image after cycle 4 does not show
abbrev other_world : List WorldRow
other_world = row true ∷ row false ∷ row false ∷ row true ∷ row true ∷ row true ∷ row true ∷ row false ∷ []

agrees : AgreesInRecent (leaf 0x100) 4 cut_world other_world counted counted
agrees = record { rows = rows; words = λ c app recent. refl }
  where
    rows : (c : ℕ) → IsRecent (leaf 0x100) 4 c → slice_get cut_world c ≡ slice_get other_world c
    rows zero recent = let short : 4 < 3 = recent.short in absurd (omega (arith, short))
    rows (suc c) recent = refl

-- ---- the record of a run without rows

record_2 : IsLockstepRecord reply_of next_kind setup whole_world first_states (λ (rows : List ℕ). rows ≡ [])
    (record { apps = map log_of (after_cycle reply_of next_kind setup 1 image_1 runs_1); journal = [] })
record_2 = record { runs = after_cycle reply_of next_kind setup 1 image_1 runs_1; played = played_2; apps = refl; journal = refl }

-- it is legal
legal_2 : IsLegal reply_of next_kind setup whole_world first_states (λ (rows : List ℕ). rows ≡ [])
    (record { apps = map log_of (after_cycle reply_of next_kind setup 1 image_1 runs_1); journal = [] })
legal_2 = lockstep_is_legal reply_of next_kind setup whole_world first_states (λ (rows : List ℕ). rows ≡ [])
    (record { apps = map log_of (after_cycle reply_of next_kind setup 1 image_1 runs_1); journal = [] }) (omega arith) refl record_2

-- no record is in which the zeros from the beginning are taken in cycle 9
too_late : (cycles : ℕ) (log : AppLog) (g : Given) → slice_get log.takes 9 ≡ Some g → g.taken.number ≡ 0 → ¬ KeepsUp cycles log
too_late cycles log g at zeros keeps = let within = keeps.opening 9 g at zeros in omega (arith, within)
