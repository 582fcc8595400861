-- The periods of a device are a codec.
use Rattle.std.proofs.Common.{◌≡◌, ℕ, ◌^◌, ◌≤◌, ◌<◌, List, ◌++◌, length, lit<, Ok, refl, sym, ap, subst, append_assoc, arith}
use Rattle.std.specs.Prelude.{replicate}
use Rattle.std.specs.List.{AllByRecursion, flat_map}
use Rattle.irt_base.specs.declared.limits.TheConstants.{MIN_FRAME, MAX_RED_FRAME, MAX_PORTS, MAX_ASSIGNMENTS, PHASES}
use Rattle.irt_base.specs.declared.blocks.Period.{Period}
use Rattle.irt_base.specs.declared.blocks.Assignment.{Assignment}
use Rattle.irt_base.specs.declared.blocks.PhasePair.{PhasePair}
use Rattle.irt_base.specs.declared.blocks.PortPeriods.{PortPeriods}
use Rattle.irt_base.specs.declared.blocks.PeriodBlock.{PeriodBlock}
use Rattle.irt_base.specs.Valid.{IsWithin, IsPeriod, IsAssignment, IsPhasePair, IsPortPeriods, IsPeriodBlock}
use Rattle.irt_block.specs.declared.extent.Extent.{Extent}
use Rattle.irt_block.specs.Reading.{◌>>=◌, spelled, within}
use Rattle.byte_laws.specs.Spelling.{ReadingIsSpelling}
use Rattle.irt_block.specs.Header.{whole_of}
use Rattle.irt_block.proofs.Rules.{within_rule, within_again, below_rule, below_again, all_so, length-items, length-items-most, given, both, spelled_size, zeros_size}
use Rattle.irt_block.proofs.Codec.{Codec, number, ruled, constant, padding, pair, pair_steps, repeat, view}
use Rattle.irt_block.proofs.Blocks.{block, ended, whole_law}
use Rattle.pdir_begin_end.specs.Periods.{periods_id, period_bytes, assignment_bytes, phase_bytes, port_bytes, fields_bytes, periods_bytes, is_below, period_at, assignment_at, phase_at, port_at, fields_at, periods_in}

-- ---- a period

abbrev pub Begins : Type 0
Begins = ℕ × (ℕ × ℕ)

abbrev pub begins : Codec Begins
begins = pair (number 4) (λ _. pair (number 4) (λ _. number 4))

abbrev pub to_period : Begins → Period
to_period a = record { red = a.0; orange = a.1.0; green = a.1.1 }

abbrev pub of_period : Period → Begins
of_period p = (p.red, (p.orange, p.green))

pub period_read : (extent : Extent) (bytes : List ℕ) → period_at extent bytes ≡ (begins.read extent bytes >>= λ x. Ok (to_period x.0, x.1))
unfolding period_at
period_read extent bytes = pair_steps _ _ extent bytes _ _ (λ red. pair_steps _ _ extent red.1 _ _ (λ orange. refl))

pub period_spell : (p : Period) → period_bytes p ≡ begins.spell (of_period p)
period_spell p = append_assoc (spelled 4 p.red) (spelled 4 p.orange) (spelled 4 p.green)

abbrev pub period_codec : Codec Period
period_codec = view begins to_period of_period period_bytes IsPeriod period_at (record {
  spell_is = period_spell;
  read_is = period_read;
  fits = λ a f. (record { red = f.0; orange = f.1.0; green = f.1.1 }, refl);
  back = λ p f. ((f.red, (f.orange, f.green)), refl);
})

-- ---- an assignment

abbrev pub Sides : Type 0
Sides = Period × Period

abbrev pub sides : Codec Sides
sides = pair period_codec (λ _. period_codec)

abbrev pub to_assignment : Sides → Assignment
to_assignment a = record { tx = a.0; rx = a.1 }

abbrev pub of_assignment : Assignment → Sides
of_assignment a = (a.tx, a.rx)

pub assignment_read : (extent : Extent) (bytes : List ℕ) → assignment_at extent bytes ≡ (sides.read extent bytes >>= λ x. Ok (to_assignment x.0, x.1))
unfolding assignment_at
assignment_read extent bytes = pair_steps _ _ extent bytes _ _ (λ tx. refl)

abbrev pub assignment_codec : Codec Assignment
assignment_codec = view sides to_assignment of_assignment assignment_bytes IsAssignment assignment_at (record {
  spell_is = λ a. refl;
  read_is = assignment_read;
  fits = λ a f. (record { tx = f.0; rx = f.1 }, refl);
  back = λ a f. ((f.tx, f.rx), refl);
})

-- ---- a phase

abbrev pub Numbers : Type 0
Numbers = ℕ × ℕ

abbrev pub numbers : ℕ → Codec Numbers
numbers count = pair (ruled 2 (is_below count)) (λ _. ruled 2 (is_below count))

abbrev pub to_phase : Numbers → PhasePair
to_phase a = record { tx = a.0; rx = a.1 }

abbrev pub of_phase : PhasePair → Numbers
of_phase p = (p.tx, p.rx)

-- a phase of so many assignments, whose numbers fit two bytes
abbrev pub IsPhase : ℕ → PhasePair → Type 0
IsPhase count p = IsPhasePair count p × ((p.tx < 256 ^ 2) × (p.rx < 256 ^ 2))

pub phase_read : (count : ℕ) (extent : Extent) (bytes : List ℕ) → phase_at count extent bytes ≡ ((numbers count).read extent bytes >>= λ x. Ok (to_phase x.0, x.1))
unfolding phase_at
phase_read count extent bytes = pair_steps _ _ extent bytes _ _ (λ tx. refl)

abbrev pub phase_codec : ℕ → Codec PhasePair
phase_codec count = view (numbers count) to_phase of_phase phase_bytes (IsPhase count) (phase_at count) (record {
  spell_is = λ p. refl;
  read_is = phase_read count;
  fits = λ a f. ((record { tx = below_rule a.0 count f.0.1; rx = below_rule a.1 count f.1.1 }, (f.0.0, f.1.0)), refl);
  back = λ p f. (((f.1.0, below_again p.tx count f.0.tx), (f.1.1, below_again p.rx count f.0.rx)), refl);
})

-- ---- a port

abbrev pub Port : Type 0
Port = ℕ × (List Assignment × (Unit {0} × List PhasePair))

abbrev pub port_fields : Codec Port
port_fields =
    pair (ruled 4 (within 1 MAX_ASSIGNMENTS)) (λ count.
    pair (repeat assignment_codec count) (λ _.
    pair (constant 4 PHASES (lit< tt)) (λ _.
    repeat (phase_codec count) PHASES)))

abbrev pub to_port : Port → PortPeriods
to_port a = record { assignments = a.1.0; phases = a.1.1.1 }

abbrev pub of_port : PortPeriods → Port
of_port p = (length p.assignments, (p.assignments, (tt, p.phases)))

pub phase_short : (count : ℕ) → count ≤ 16 → (p : PhasePair) → IsPhasePair count p → IsPhase count p
phase_short count le p h = let tx = h.tx in let rx = h.rx in (h, (omega arith, omega arith))

pub phase_drop : (count : ℕ) (p : PhasePair) → IsPhase count p → IsPhasePair count p
phase_drop count p h = h.0

pub port_fits : (a : Port) → port_fields.Fits a → IsPortPeriods (to_port a) × (of_port (to_port a) ≡ a)
port_fits a f =
    let count = f.1.0.0 in (
      record {
        count = subst (IsWithin 1 MAX_ASSIGNMENTS) (sym count) (within_rule 1 MAX_ASSIGNMENTS a.0 f.0.1);
        assignments = f.1.0.1;
        sixteen = f.1.1.1.0;
        phases = subst (λ (n : ℕ). AllByRecursion (IsPhasePair n) a.1.1.1) (sym count) (all_so (IsPhase a.0) (IsPhasePair a.0) (phase_drop a.0) a.1.1.1 f.1.1.1.1);
      },
      ap (λ (n : ℕ). (n, (a.1.0, (tt, a.1.1.1)))) count,
    )

pub port_back : (p : PortPeriods) → IsPortPeriods p → port_fields.Fits (of_port p)
port_back p f =
    let most = f.count.1 in
    ((omega arith, within_again 1 MAX_ASSIGNMENTS (length p.assignments) f.count), ((refl, f.assignments), (tt, (f.sixteen, all_so (IsPhasePair (length p.assignments)) (IsPhase (length p.assignments)) (phase_short (length p.assignments) most) p.phases f.phases))))

pub port_read : (extent : Extent) (bytes : List ℕ) → port_at extent bytes ≡ (port_fields.read extent bytes >>= λ x. Ok (to_port x.0, x.1))
unfolding port_at
port_read extent bytes =
    pair_steps _ _ extent bytes _ _ (λ count.
    pair_steps _ _ extent count.1 _ _ (λ assignments.
    pair_steps _ _ extent assignments.1 _ _ (λ sixteen. refl)))

four_parts : (a b c d : List ℕ) → a ++ b ++ c ++ d ≡ a ++ (b ++ (c ++ d))
four_parts a b c d = simp append_assoc

pub port_spell : (p : PortPeriods) → port_bytes p ≡ port_fields.spell (of_port p)
port_spell p = four_parts (spelled 4 (length p.assignments)) (flat_map assignment_bytes p.assignments) (spelled 4 PHASES) (flat_map phase_bytes p.phases)

abbrev pub port_codec : Codec PortPeriods
port_codec = view port_fields to_port of_port port_bytes IsPortPeriods port_at (record {
  spell_is = port_spell;
  read_is = port_read;
  fits = port_fits;
  back = λ p f. (port_back p f, refl);
})

-- ---- the block

abbrev pub Fields : Type 0
Fields = Unit {0} × (ℕ × (ℕ × (ℕ × List PortPeriods)))

abbrev pub fields : Codec Fields
fields =
    pair (padding 2) (λ _.
    pair (ruled 2 (within MIN_FRAME MAX_RED_FRAME)) (λ first.
    pair (ruled 2 (within first MAX_RED_FRAME)) (λ _.
    pair (ruled 4 (within 1 MAX_PORTS)) (λ count.
    repeat port_codec count))))

abbrev pub to_block : Fields → PeriodBlock
to_block a = record { first = a.1.0; last = a.1.1.0; ports = a.1.1.1.1 }

abbrev pub of_block : PeriodBlock → Fields
of_block b = (tt, (b.first, (b.last, (length b.ports, b.ports))))

pub block_fits : (a : Fields) → fields.Fits a → IsPeriodBlock (to_block a) × (of_block (to_block a) ≡ a)
block_fits a f =
    let count = f.1.1.1.1.0 in (
      record {
        first = within_rule MIN_FRAME MAX_RED_FRAME a.1.0 f.1.0.1;
        last = within_rule a.1.0 MAX_RED_FRAME a.1.1.0 f.1.1.0.1;
        count = subst (IsWithin 1 MAX_PORTS) (sym count) (within_rule 1 MAX_PORTS a.1.1.1.0 f.1.1.1.0.1);
        ports = f.1.1.1.1.1;
      },
      ap (λ (n : ℕ). (tt, (a.1.0, (a.1.1.0, (n, a.1.1.1.1))))) count,
    )

pub block_back : (b : PeriodBlock) → IsPeriodBlock b → fields.Fits (of_block b)
block_back b f =
    let first = f.first.1 in
    let last = f.last.1 in
    let count = f.count.1 in
    (tt, ((omega arith, within_again MIN_FRAME MAX_RED_FRAME b.first f.first), ((omega arith, within_again b.first MAX_RED_FRAME b.last f.last), ((omega arith, within_again 1 MAX_PORTS (length b.ports) f.count), (refl, f.ports)))))

pub block_read : (extent : Extent) (bytes : List ℕ) → fields_at extent bytes ≡ (fields.read extent bytes >>= λ x. Ok (to_block x.0, x.1))
unfolding fields_at
block_read extent bytes =
    pair_steps _ _ extent bytes _ _ (λ pad.
    pair_steps _ _ extent pad.1 _ _ (λ first.
    pair_steps _ _ extent first.1 _ _ (λ last.
    pair_steps _ _ extent last.1 _ _ (λ count. refl))))

five_parts : (a b c d e : List ℕ) → a ++ b ++ c ++ d ++ e ≡ a ++ (b ++ (c ++ (d ++ e)))
five_parts a b c d e = simp append_assoc

pub block_spell : (b : PeriodBlock) → fields_bytes b ≡ fields.spell (of_block b)
block_spell b = five_parts (replicate 2 0) (spelled 2 b.first) (spelled 2 b.last) (spelled 4 (length b.ports)) (flat_map port_bytes b.ports)

abbrev pub block_fields : Codec PeriodBlock
block_fields = view fields to_block of_block fields_bytes IsPeriodBlock fields_at (record {
  spell_is = block_spell;
  read_is = block_read;
  fits = block_fits;
  back = λ b f. (block_back b f, refl);
})

abbrev pub periods_codec : Codec PeriodBlock
periods_codec = block periods_id (lit< tt) (ended block_fields)

-- ---- sizes

pub length-assignment : (a : Assignment) → length (assignment_bytes a) ≡ 24
unfolding spelled
length-assignment a = refl

pub length-phase : (p : PhasePair) → length (phase_bytes p) ≡ 4
unfolding spelled
length-phase p = refl

pub length-port : (p : PortPeriods) → IsPortPeriods p → length (port_bytes p) ≤ 456
length-port p f =
    let most = f.count.1 in
    let sixteen = f.sixteen in
    let size = (both (both (both (spelled_size 4 (length p.assignments)) (given (flat_map assignment_bytes p.assignments) _ (length-items assignment_bytes 24 length-assignment p.assignments))) (spelled_size 4 PHASES))
    (given (flat_map phase_bytes p.phases) _ (length-items phase_bytes 4 length-phase p.phases))).is in
    omega (arith, size)

pub length-block : (b : PeriodBlock) → IsPeriodBlock b → length (fields_bytes b) ≤ 3202
length-block b f =
    let most = f.count.1 in
    let ports = length-items-most port_bytes IsPortPeriods 456 length-port b.ports f.ports in
    let size = (both (both (both (both (zeros_size 2) (spelled_size 2 b.first)) (spelled_size 2 b.last)) (spelled_size 4 (length b.ports)))
    (given (flat_map port_bytes b.ports) (length (flat_map port_bytes b.ports)) refl)).is in
    omega (arith, size, ports)

-- what is valid has a spelling, and its size fits BlockLength
pub periods_fit_block : (b : PeriodBlock) → IsPeriodBlock b → periods_codec.Fits b
periods_fit_block b f = (f, omega (arith, length-block b f))

-- reading the block and spelling it are one
pub periods_law : ReadingIsSpelling (whole_of periods_in) IsPeriodBlock periods_bytes
periods_law = whole_law periods_codec IsPeriodBlock (λ v f. f.0) periods_fit_block
