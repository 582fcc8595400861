-- The delays of a device are a codec.
use Rattle.std.proofs.Common.{◌≡◌, ℕ, ◌+◌, ◌*◌, List, length, lit<, Ok, refl, sym, ap, subst, append_assoc, arith}
use Rattle.std.specs.List.{flat_map}
use Rattle.irt_block.specs.declared.extent.Extent.{Extent}
use Rattle.byte_laws.specs.Spelling.{ReadingIsSpelling}
use Rattle.irt_block.specs.Header.{whole_of}
use Rattle.irt_base.specs.declared.limits.TheConstants.{MAX_DELAY, MAX_PORTS}
use Rattle.irt_base.specs.declared.blocks.PortDelay.{PortDelay}
use Rattle.irt_base.specs.declared.blocks.GlobalBlock.{GlobalBlock}
use Rattle.irt_base.specs.Valid.{IsWithin, IsPortDelay, IsGlobalBlock}
use Rattle.irt_block.specs.Reading.{◌>>=◌, spelled, within}
use Rattle.irt_block.proofs.Rules.{within_rule, within_again, length-items, given, both, spelled_size, zeros_size}
use Rattle.irt_block.proofs.Codec.{Codec, raw, ruled, padding, pair, pair_steps, repeat, view}
use Rattle.irt_block.proofs.Blocks.{block, ended, whole_law}
use Rattle.pd_blocks.specs.Global.{global_id, port_bytes, global_fields_bytes, global_bytes, port_at, global_fields_at, global_in}

-- ---- a port

abbrev pub Delays : Type 0
Delays = ℕ × ℕ

abbrev pub delays : Codec Delays
delays = pair (ruled 4 (within 0 MAX_DELAY)) (λ _. ruled 4 (within 0 MAX_DELAY))

abbrev pub to_port : Delays → PortDelay
to_port a = record { tx = a.0; rx = a.1 }

abbrev pub of_port : PortDelay → Delays
of_port p = (p.tx, p.rx)

pub port_read : (extent : Extent) (bytes : List ℕ) → port_at extent bytes ≡ (delays.read extent bytes >>= λ x. Ok (to_port x.0, x.1))
unfolding port_at
port_read extent bytes = pair_steps _ _ extent bytes _ _ (λ tx. refl)

pub port_fits : (a : Delays) → delays.Fits a → IsPortDelay (to_port a)
port_fits a f = record { tx = (within_rule 0 MAX_DELAY a.0 f.0.1).1; rx = (within_rule 0 MAX_DELAY a.1 f.1.1).1 }

pub port_back : (p : PortDelay) → IsPortDelay p → delays.Fits (of_port p)
port_back p f =
    let tx = f.tx in
    let rx = f.rx in
    ((omega arith, within_again 0 MAX_DELAY p.tx (omega arith, tx)), (omega arith, within_again 0 MAX_DELAY p.rx (omega arith, rx)))

abbrev pub port_codec : Codec PortDelay
port_codec = view delays to_port of_port port_bytes IsPortDelay port_at (record {
  spell_is = λ p. refl;
  read_is = port_read;
  fits = λ a f. (port_fits a f, refl);
  back = λ p f. (port_back p f, refl);
})

-- ---- the block

abbrev pub Fields : Type 0
Fields = Unit {0} × (List ℕ × (ℕ × (ℕ × List PortDelay)))

abbrev pub fields : Codec Fields
fields =
    pair (padding 2) (λ _.
    pair (raw 16) (λ _.
    pair (ruled 4 (within 0 MAX_DELAY)) (λ _.
    pair (ruled 4 (within 1 MAX_PORTS)) (λ count.
    repeat port_codec count))))

abbrev pub to_block : Fields → GlobalBlock
to_block a = record { uuid = a.1.0; bridge = a.1.1.0; ports = a.1.1.1.1 }

abbrev pub of_block : GlobalBlock → Fields
of_block b = (tt, (b.uuid, (b.bridge, (length b.ports, b.ports))))

pub global_fits : (a : Fields) → fields.Fits a → IsGlobalBlock (to_block a) × (of_block (to_block a) ≡ a)
global_fits a f =
    let count = f.1.1.1.1.0 in
    let bounds = within_rule 1 MAX_PORTS a.1.1.1.0 f.1.1.1.0.1 in (
      record {
        uuid = f.1.0;
        bridge = (within_rule 0 MAX_DELAY a.1.1.0 f.1.1.0.1).1;
        count = subst (IsWithin 1 MAX_PORTS) (sym count) bounds;
        ports = f.1.1.1.1.1;
      },
      ap (λ (n : ℕ). (tt, (a.1.0, (a.1.1.0, (n, a.1.1.1.1))))) count,
    )

pub global_back : (b : GlobalBlock) → IsGlobalBlock b → fields.Fits (of_block b)
global_back b f =
    let bridge = f.bridge in
    let count = f.count.1 in
    (tt, (f.uuid, ((omega arith, within_again 0 MAX_DELAY b.bridge (omega arith, bridge)), ((omega arith, within_again 1 MAX_PORTS (length b.ports) f.count), (refl, f.ports)))))

pub global_read : (extent : Extent) (bytes : List ℕ) → global_fields_at extent bytes ≡ (fields.read extent bytes >>= λ x. Ok (to_block x.0, x.1))
unfolding global_fields_at
global_read extent bytes =
    pair_steps _ _ extent bytes _ _ (λ pad.
    pair_steps _ _ extent pad.1 _ _ (λ uuid.
    pair_steps _ _ extent uuid.1 _ _ (λ bridge.
    pair_steps _ _ extent bridge.1 _ _ (λ count. refl))))

pub global_spell : (b : GlobalBlock) → global_fields_bytes b ≡ fields.spell (of_block b)
global_spell b = simp append_assoc

abbrev pub global_fields : Codec GlobalBlock
global_fields = view fields to_block of_block global_fields_bytes IsGlobalBlock global_fields_at (record {
  spell_is = global_spell;
  read_is = global_read;
  fits = global_fits;
  back = λ b f. (global_back b f, refl);
})

abbrev pub global_codec : Codec GlobalBlock
global_codec = block global_id (lit< tt) (ended global_fields)

-- ---- sizes

pub length-port : (p : PortDelay) → length (port_bytes p) ≡ 8
unfolding spelled
length-port p = refl

pub length-global : (b : GlobalBlock) → IsGlobalBlock b → length (global_fields_bytes b) ≡ 26 + 8 * length b.ports
length-global b f =
    (both (both (both (both (zeros_size 2) (given b.uuid 16 f.uuid.0)) (spelled_size 4 b.bridge)) (spelled_size 4 (length b.ports)))
    (given (flat_map port_bytes b.ports) _ (length-items port_bytes 8 length-port b.ports))).is

-- what is valid has a spelling, and its size fits BlockLength
pub global_fits_block : (b : GlobalBlock) → IsGlobalBlock b → global_codec.Fits b
global_fits_block b f = let n = f.count.1 in (f, omega (arith, length-global b f))

-- reading the block and spelling it are one
pub global_law : ReadingIsSpelling (whole_of global_in) IsGlobalBlock global_bytes
global_law = whole_law global_codec IsGlobalBlock (λ v f. f.0) global_fits_block
