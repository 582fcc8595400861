-- PDIRData and the device file are codecs.
use Rattle.std.proofs.Common.{◌≡◌, ℕ, ◌+◌, ◌^◌, ◌≤◌, ◌<◌, List, ◌++◌, length, lit<, Ok, refl, append_assoc, arith}
use Rattle.std.specs.Prelude.{replicate}
use Rattle.irt_base.specs.declared.blocks.SyncBlock.{SyncBlock}
use Rattle.irt_base.specs.declared.blocks.GlobalBlock.{GlobalBlock}
use Rattle.irt_base.specs.declared.blocks.FrameBlock.{FrameBlock}
use Rattle.irt_base.specs.declared.blocks.PeriodBlock.{PeriodBlock}
use Rattle.irt_base.specs.declared.blocks.Bundle.{Bundle}
use Rattle.irt_base.specs.Valid.{IsGlobalBlock, IsFrameBlock, IsPeriodBlock, IsBundle}
use Rattle.irt_block.specs.declared.extent.Extent.{Extent}
use Rattle.irt_block.specs.declared.header.BlockId.{BlockId}
use Rattle.irt_block.specs.Reading.{◌>>=◌, spelled}
use Rattle.byte_laws.specs.Spelling.{ReadingIsSpelling}
use Rattle.irt_block.specs.Header.{header_bytes, block_bytes, whole_of}
use Rattle.irt_block.proofs.Rules.{given, both, spelled_size, zeros_size}
use Rattle.irt_block.proofs.Codec.{Codec, number, padding, pair, pair_steps, view}
use Rattle.irt_block.proofs.Blocks.{block, ended, whole_law, length-header}
use Rattle.pd_blocks.specs.Global.{global_id, global_fields_bytes, global_bytes}
use Rattle.pd_blocks.proofs.SyncLaws.{sync_codec, sync_fits_block}
use Rattle.pd_blocks.proofs.GlobalLaws.{global_codec, global_fits_block, length-global}
use Rattle.pdir_frame.specs.Frames as frames_specs
use Rattle.pdir_frame.proofs.Laws.{frame_codec, frame_fits_block, length-fields}
use Rattle.pdir_begin_end.specs.Periods as periods_specs
use Rattle.pdir_begin_end.proofs.Laws.{periods_codec, periods_fit_block, length-block}
use Rattle.irt_bundle.specs.declared.reading.Data.{Data}
use Rattle.irt_bundle.specs.Bundles.{data_id, data_fields_bytes, data_of, bundle_bytes, data_fields_at, bundle_in}

-- ---- PDIRData

pub record IsData (d : Data) : Type 0 where
  pub slot : d.slot < 2 ^ 16
  pub subslot : d.subslot < 2 ^ 16
  pub global : IsGlobalBlock d.global
  pub frames : IsFrameBlock d.frames
  pub periods : IsPeriodBlock d.periods

abbrev pub Fields : Type 0
Fields = Unit {0} × (ℕ × (ℕ × (GlobalBlock × (FrameBlock × PeriodBlock))))

abbrev pub fields : Codec Fields
fields =
    pair (padding 2) (λ _.
    pair (number 2) (λ _.
    pair (number 2) (λ _.
    pair global_codec (λ _.
    pair frame_codec (λ _.
    periods_codec)))))

abbrev pub to_data : Fields → Data
to_data a = record { slot = a.1.0; subslot = a.1.1.0; global = a.1.1.1.0; frames = a.1.1.1.1.0; periods = a.1.1.1.1.1 }

abbrev pub of_data : Data → Fields
of_data d = (tt, (d.slot, (d.subslot, (d.global, (d.frames, d.periods)))))

pub data_fits : (a : Fields) → fields.Fits a → IsData (to_data a)
data_fits a f = record { slot = f.1.0; subslot = f.1.1.0; global = f.1.1.1.0.0; frames = f.1.1.1.1.0.0; periods = f.1.1.1.1.1.0 }

pub data_back : (d : Data) → IsData d → fields.Fits (of_data d)
data_back d f = (tt, (f.slot, (f.subslot, (global_fits_block d.global f.global, (frame_fits_block d.frames f.frames, periods_fit_block d.periods f.periods)))))

pub data_read : (extent : Extent) (bytes : List ℕ) → data_fields_at extent bytes ≡ (fields.read extent bytes >>= λ x. Ok (to_data x.0, x.1))
unfolding data_fields_at
data_read extent bytes =
    pair_steps _ _ extent bytes _ _ (λ pad.
    pair_steps _ _ extent pad.1 _ _ (λ slot.
    pair_steps _ _ extent slot.1 _ _ (λ subslot.
    pair_steps _ _ extent subslot.1 _ _ (λ global.
    pair_steps _ _ extent global.1 _ _ (λ block. refl)))))

six_parts : (a b c d e f : List ℕ) → a ++ b ++ c ++ d ++ e ++ f ≡ a ++ (b ++ (c ++ (d ++ (e ++ f))))
six_parts a b c d e f = simp append_assoc

pub data_spell : (d : Data) → data_fields_bytes d ≡ fields.spell (of_data d)
data_spell d = six_parts (replicate 2 0) (spelled 2 d.slot) (spelled 2 d.subslot) (global_bytes d.global) (frames_specs.frame_bytes d.frames) (periods_specs.periods_bytes d.periods)

abbrev pub data_fields : Codec Data
data_fields = view fields to_data of_data data_fields_bytes IsData data_fields_at (record {
  spell_is = data_spell;
  read_is = data_read;
  fits = λ a f. (data_fits a f, refl);
  back = λ d f. (data_back d f, refl);
})

abbrev pub data_codec : Codec Data
data_codec = block data_id (lit< tt) (ended data_fields)

pub length-whole : (id : BlockId) (inner : List ℕ) → length (block_bytes id inner) ≡ 6 + length inner
length-whole id inner = (both (given (header_bytes id (length inner + 2)) 6 (length-header id (length inner + 2))) (given inner (length inner) refl)).is

-- at most 26 and 56, 6 and 10240, and 3202 bytes of fields of the three blocks
pub length-data : (d : Data) → IsData d → length (data_fields_bytes d) ≤ 13554
length-data d f =
    let ports = f.global.count.1 in
    let entries = f.frames.count in
    let g = length-whole global_id (global_fields_bytes d.global) in
    let h = length-whole frames_specs.frames_id (frames_specs.fields_bytes d.frames) in
    let p = length-whole periods_specs.periods_id (periods_specs.fields_bytes d.periods) in
    let size = (both (both (both (both (both (zeros_size 2) (spelled_size 2 d.slot)) (spelled_size 2 d.subslot)) (given (global_bytes d.global) _ g)) (given (frames_specs.frame_bytes d.frames) _ h)) (given (periods_specs.periods_bytes d.periods) _ p)).is in
    omega (arith, size, length-global d.global f.global, length-fields d.frames, length-block d.periods f.periods)

pub data_fits_block : (d : Data) → IsData d → data_codec.Fits d
data_fits_block d f = (f, omega (arith, length-data d f))

-- ---- the device file

abbrev pub Blocks : Type 0
Blocks = SyncBlock × Data

abbrev pub blocks : Codec Blocks
blocks = pair sync_codec (λ _. data_codec)

abbrev pub to_bundle : Blocks → Bundle
to_bundle a = record { sync = a.0; slot = a.1.slot; subslot = a.1.subslot; global = a.1.global; frames = a.1.frames; periods = a.1.periods }

abbrev pub of_bundle : Bundle → Blocks
of_bundle b = (b.sync, data_of b)

pub bundle_fits : (a : Blocks) → blocks.Fits a → IsBundle (to_bundle a)
bundle_fits a f =
    let d = f.1.0 in
    record { sync = f.0.0; slot = d.slot; subslot = d.subslot; global = d.global; frames = d.frames; periods = d.periods }

pub data_valid : (b : Bundle) → IsBundle b → IsData (data_of b)
data_valid b f = record { slot = f.slot; subslot = f.subslot; global = f.global; frames = f.frames; periods = f.periods }

pub bundle_back : (b : Bundle) → IsBundle b → blocks.Fits (of_bundle b)
bundle_back b f = (sync_fits_block b.sync f.sync, data_fits_block (data_of b) (data_valid b f))

pub bundle_read : (extent : Extent) (bytes : List ℕ) → bundle_in extent bytes ≡ (blocks.read extent bytes >>= λ x. Ok (to_bundle x.0, x.1))
unfolding bundle_in
bundle_read extent bytes = pair_steps _ _ extent bytes _ _ (λ sync. refl)

abbrev pub bundle_codec : Codec Bundle
bundle_codec = view blocks to_bundle of_bundle bundle_bytes IsBundle bundle_in (record {
  spell_is = λ b. refl;
  read_is = bundle_read;
  fits = λ a f. (bundle_fits a f, refl);
  back = λ b f. (bundle_back b f, refl);
})

-- reading a device file and spelling it are one
pub bundle_law : ReadingIsSpelling (whole_of bundle_in) IsBundle bundle_bytes
bundle_law = whole_law bundle_codec IsBundle (λ v f. f) (λ v f. f)
