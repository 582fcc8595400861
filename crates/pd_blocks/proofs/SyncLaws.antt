-- A sync block is a codec.
use Rattle.std.proofs.Common.{◌≡◌, ℕ, zero, suc, true, ◌+◌, ◌%◌, ◌≤◌, List, ◌++◌, length, take, lit<, Ok, refl, sym, ap, subst, ◌∙◌, append_assoc, arith}
use Rattle.std.specs.Prelude.{replicate}
use Rattle.irt_block.specs.declared.extent.Extent.{Extent}
use Rattle.byte_laws.specs.Spelling.{ReadingIsSpelling}
use Rattle.irt_block.specs.Header.{whole_of, header_bytes}
use Rattle.irt_base.specs.declared.limits.TheConstants.{MAX_WINDOW, MAX_FACTOR, MAX_DOMAIN_NAME}
use Rattle.irt_base.specs.declared.blocks.SyncBlock.{SyncBlock}
use Rattle.irt_base.specs.Valid.{IsWithin, IsDomainByte, IsSyncBlock}
use Rattle.irt_block.specs.declared.bytes.ByteClass.TheVariants.{Letter}
use Rattle.irt_block.specs.Reading.{◌>>=◌, spelled, within, is_of}
use Rattle.irt_block.proofs.Rules.{within_rule, within_again, letter_rule, letter_again, all_so, Sized, given, both, spelled_size, zeros_size}
use Rattle.irt_block.proofs.Codec.{Codec, raw, number, ruled, constant, of_class, padding, pair, pair_steps, view}
use Rattle.irt_block.proofs.Blocks.{block, ended, whole_law, length-header}
use Rattle.pd_blocks.specs.Sync.{sync_id, last_pad, sync_fields_bytes, sync_bytes, sync_fields_at, sync_in}

abbrev pub Fields : Type 0
Fields = Unit {0} × (List ℕ × (Unit {0} × (Unit {0} × (ℕ × (ℕ × (ℕ × (ℕ × (ℕ × (ℕ × (ℕ × (ℕ × (ℕ × (ℕ × (List ℕ × Unit {0}))))))))))))))

abbrev pub fields : Codec Fields
fields =
    pair (padding 2) (λ _.
    pair (raw 16) (λ _.
    pair (constant 4 0 (lit< tt)) (λ _.
    pair (constant 4 0 (lit< tt)) (λ _.
    pair (ruled 4 (within 0 MAX_WINDOW)) (λ _.
    pair (number 4) (λ _.
    pair (ruled 2 (within 1 MAX_FACTOR)) (λ _.
    pair (number 2) (λ _.
    pair (number 2) (λ _.
    pair (number 2) (λ _.
    pair (number 2) (λ _.
    pair (number 1) (λ _.
    pair (number 1) (λ _.
    pair (ruled 1 (within 1 MAX_DOMAIN_NAME)) (λ letters.
    pair (of_class Letter letters) (λ _.
    padding (last_pad letters))))))))))))))))

abbrev pub to_block : Fields → SyncBlock
to_block a = record {
  subdomain = a.1.0;
  window = a.1.1.1.1.0;
  send = a.1.1.1.1.1.0;
  factor = a.1.1.1.1.1.1.0;
  timeout = a.1.1.1.1.1.1.1.0;
  takeover = a.1.1.1.1.1.1.1.1.0;
  startup = a.1.1.1.1.1.1.1.1.1.0;
  properties = a.1.1.1.1.1.1.1.1.1.1.0;
  priority1 = a.1.1.1.1.1.1.1.1.1.1.1.0;
  priority2 = a.1.1.1.1.1.1.1.1.1.1.1.1.0;
  name = a.1.1.1.1.1.1.1.1.1.1.1.1.1.1.0;
}

abbrev pub of_block : SyncBlock → Fields
of_block b = (tt, (b.subdomain, (tt, (tt, (b.window, (b.send, (b.factor, (b.timeout, (b.takeover, (b.startup, (b.properties, (b.priority1, (b.priority2, (length b.name, (b.name, tt)))))))))))))))

pub sync_fits : (a : Fields) → fields.Fits a → IsSyncBlock (to_block a) × (of_block (to_block a) ≡ a)
sync_fits a f =
    let count = f.1.1.1.1.1.1.1.1.1.1.1.1.1.1.0.0 in
    let bounds = within_rule 1 MAX_DOMAIN_NAME a.1.1.1.1.1.1.1.1.1.1.1.1.1.0 f.1.1.1.1.1.1.1.1.1.1.1.1.1.0.1 in (
      record {
        subdomain = f.1.0;
        window = (within_rule 0 MAX_WINDOW a.1.1.1.1.0 f.1.1.1.1.0.1).1;
        send = f.1.1.1.1.1.0;
        factor = within_rule 1 MAX_FACTOR a.1.1.1.1.1.1.0 f.1.1.1.1.1.1.0.1;
        timeout = f.1.1.1.1.1.1.1.0;
        takeover = f.1.1.1.1.1.1.1.1.0;
        startup = f.1.1.1.1.1.1.1.1.1.0;
        properties = f.1.1.1.1.1.1.1.1.1.1.0;
        priority1 = f.1.1.1.1.1.1.1.1.1.1.1.0;
        priority2 = f.1.1.1.1.1.1.1.1.1.1.1.1.0;
        name = subst (IsWithin 1 MAX_DOMAIN_NAME) (sym count) bounds;
        letters = all_so (λ b. is_of Letter b ≡ true) IsDomainByte letter_rule a.1.1.1.1.1.1.1.1.1.1.1.1.1.1.0 f.1.1.1.1.1.1.1.1.1.1.1.1.1.1.0.1;
      },
      ap (λ (n : ℕ). (tt, (a.1.0, (tt, (tt, (a.1.1.1.1.0, (a.1.1.1.1.1.0, (a.1.1.1.1.1.1.0, (a.1.1.1.1.1.1.1.0, (a.1.1.1.1.1.1.1.1.0, (a.1.1.1.1.1.1.1.1.1.0, (a.1.1.1.1.1.1.1.1.1.1.0, (a.1.1.1.1.1.1.1.1.1.1.1.0, (a.1.1.1.1.1.1.1.1.1.1.1.1.0, (n, (a.1.1.1.1.1.1.1.1.1.1.1.1.1.1.0, tt)))))))))))))))) count,
    )

pub sync_back : (b : SyncBlock) → IsSyncBlock b → fields.Fits (of_block b)
sync_back b f =
    let window = f.window in
    let factor = f.factor.1 in
    let name = f.name.1 in
    (tt, (f.subdomain, (tt, (tt, ((omega arith, within_again 0 MAX_WINDOW b.window (omega arith, window)), (f.send, ((omega arith, within_again 1 MAX_FACTOR b.factor f.factor), (f.timeout, (f.takeover, (f.startup, (f.properties, (f.priority1, (f.priority2, ((omega arith, within_again 1 MAX_DOMAIN_NAME (length b.name) f.name), ((refl, all_so IsDomainByte (λ x. is_of Letter x ≡ true) letter_again b.name f.letters), tt)))))))))))))))

pub sync_read : (extent : Extent) (bytes : List ℕ) → sync_fields_at extent bytes ≡ (fields.read extent bytes >>= λ x. Ok (to_block x.0, x.1))
unfolding sync_fields_at
sync_read extent bytes =
    pair_steps _ _ extent bytes _ _ (λ pad.
    pair_steps _ _ extent pad.1 _ _ (λ sub.
    pair_steps _ _ extent sub.1 _ _ (λ begin.
    pair_steps _ _ extent begin.1 _ _ (λ end.
    pair_steps _ _ extent end.1 _ _ (λ window.
    pair_steps _ _ extent window.1 _ _ (λ send.
    pair_steps _ _ extent send.1 _ _ (λ factor.
    pair_steps _ _ extent factor.1 _ _ (λ timeout.
    pair_steps _ _ extent timeout.1 _ _ (λ takeover.
    pair_steps _ _ extent takeover.1 _ _ (λ startup.
    pair_steps _ _ extent startup.1 _ _ (λ properties.
    pair_steps _ _ extent properties.1 _ _ (λ priority1.
    pair_steps _ _ extent priority1.1 _ _ (λ priority2.
    pair_steps _ _ extent priority2.1 _ _ (λ letters.
    pair_steps _ _ extent letters.1 _ _ (λ name. refl)))))))))))))))

-- sixteen parts, grouped from the right
fields_regroup : (a b c d e f g h i j k l m n o p : List ℕ) → (a ++ b ++ c ++ d ++ e ++ f ++ g ++ h ++ i ++ j ++ k ++ l ++ m) ++ (n ++ o ++ p) ≡ a ++ (b ++ (c ++ (d ++ (e ++ (f ++ (g ++ (h ++ (i ++ (j ++ (k ++ (l ++ (m ++ (n ++ (o ++ p))))))))))))))
fields_regroup a b c d e f g h i j k l m n o p = simp append_assoc

pub sync_spell : (b : SyncBlock) → sync_fields_bytes b ≡ fields.spell (of_block b)
sync_spell b =
    fields_regroup (replicate 2 0) b.subdomain (spelled 4 0) (spelled 4 0) (spelled 4 b.window) (spelled 4 b.send) (spelled 2 b.factor) (spelled 2 b.timeout) (spelled 2 b.takeover) (spelled 2 b.startup) (spelled 2 b.properties)
    (spelled 1 b.priority1) (spelled 1 b.priority2) (spelled 1 (length b.name)) b.name (replicate (last_pad (length b.name)) 0)

abbrev pub sync_fields : Codec SyncBlock
sync_fields = view fields to_block of_block sync_fields_bytes IsSyncBlock sync_fields_at (record {
  spell_is = sync_spell;
  read_is = sync_read;
  fits = sync_fits;
  back = λ b f. (sync_back b f, refl);
})

abbrev pub sync_codec : Codec SyncBlock
sync_codec = block sync_id (lit< tt) (ended sync_fields)

-- ---- sizes

pub sync_size : (b : SyncBlock) → IsSyncBlock b → Sized (sync_fields_bytes b) (46 + (1 + length b.name + last_pad (length b.name)))
sync_size b f =
    let begin = both (both (both (zeros_size 2) (given b.subdomain 16 f.subdomain.0)) (spelled_size 4 0)) (spelled_size 4 0) in
    let times = both (both (both (both begin (spelled_size 4 b.window)) (spelled_size 4 b.send)) (spelled_size 2 b.factor)) (spelled_size 2 b.timeout) in
    let front = both (both (both (both (both times (spelled_size 2 b.takeover)) (spelled_size 2 b.startup)) (spelled_size 2 b.properties)) (spelled_size 1 b.priority1)) (spelled_size 1 b.priority2) in
    both front (both (both (spelled_size 1 (length b.name)) (given b.name (length b.name) refl)) (zeros_size (last_pad (length b.name))))

pub length-sync : (b : SyncBlock) → IsSyncBlock b → length (sync_fields_bytes b) ≡ 46 + (1 + length b.name + last_pad (length b.name))
length-sync b f = (sync_size b f).is

-- what is valid has a spelling, and its size fits BlockLength
pub sync_fits_block : (b : SyncBlock) → IsSyncBlock b → sync_codec.Fits b
sync_fits_block b f = let n = f.name.1 in (f, omega (arith, length-sync b f))

-- reading the block and spelling it are one
pub sync_law : ReadingIsSpelling (whole_of sync_in) IsSyncBlock sync_bytes
sync_law = whole_law sync_codec IsSyncBlock (λ v f. f.0) sync_fits_block

-- the padding makes the size a multiple of 4
pub sync_whole : (v : SyncBlock) (out : List ℕ) → IsSyncBlock v → out ≡ sync_bytes v → length out % 4 ≡ 0
sync_whole v out f e =
    let size : length out ≡ 6 + length (sync_fields_bytes v) = ap length e ∙ (both (given (header_bytes sync_id (length (sync_fields_bytes v) + 2)) 6 (length-header sync_id (length (sync_fields_bytes v) + 2))) (given (sync_fields_bytes v) (length (sync_fields_bytes v)) refl)).is in
    omega (arith, size, length-sync v f)

-- so many of three zeros
pub zeros_cut : (count : ℕ) → count ≤ 3 → take {A = ℕ} count (replicate 3 0) ≡ replicate count 0
zeros_cut zero le = refl
zeros_cut (suc zero) le = refl
zeros_cut (suc (suc zero)) le = refl
zeros_cut (suc (suc (suc zero))) le = refl
zeros_cut (suc (suc (suc (suc n)))) le = absurd (omega arith)
