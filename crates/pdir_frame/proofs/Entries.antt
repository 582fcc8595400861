-- An entry, and entries by ascending FrameID, are codecs.
use Rattle.std.proofs.Common.{◌≡◌, ℕ, ◌≤◌, true, List, lit<, Ok, refl, append_assoc, arith}
use Rattle.std.proofs.lemmas.Bool.Decides.{nat_tests}
use Rattle.irt_base.specs.declared.limits.TheConstants.{MIN_FRAME, MAX_FRAME, MAX_PORTS}
use Rattle.irt_base.specs.declared.blocks.Entry.{Entry}
use Rattle.irt_base.specs.Valid.{IsDataLength, IsRatio, IsEntry}
use Rattle.irt_block.specs.declared.extent.Extent.{Extent}
use Rattle.irt_block.specs.Reading.{◌>>=◌, IsSure, within}
use Rattle.irt_block.proofs.Steps.{sure_map, sure_along}
use Rattle.irt_block.proofs.Codec.{Codec, number, ruled, constant, padding, pair, pair_steps, view}
use Rattle.irt_block.proofs.Rules.{within_rule, within_again}
use Rattle.pdir_frame.specs.declared.entry.TheConstants.{ETHERTYPE, FRAME_DETAILS, TX_PORT_GROUPS}
use Rattle.pdir_frame.specs.Frames.{entry_bytes, is_data_length, is_ratio, entry_at}

-- ---- what the rules mean

pub data_length_rule : (n : ℕ) → is_data_length n ≡ true → IsDataLength n
data_length_rule n h = grind (arith, nat_tests)

data_length_again : (n : ℕ) → IsDataLength n → is_data_length n ≡ true
data_length_again n h = grind (arith, nat_tests)

ratio_rule : (n : ℕ) → is_ratio n ≡ true → IsRatio n
ratio_rule n h = grind (arith, nat_tests)

ratio_again : (n : ℕ) → IsRatio n → is_ratio n ≡ true
ratio_again n h = grind (arith, nat_tests)

pub ratio_most : (n : ℕ) → IsRatio n → n ≤ 16
ratio_most n h = grind arith

-- ---- an entry

-- the fields in order, as they are read
abbrev pub Fields : Type 0
Fields = ℕ × (ℕ × (ℕ × (ℕ × (ℕ × (Unit {0} × (ℕ × (Unit {0} × (Unit {0} × (ℕ × Unit {0})))))))))

abbrev pub fields : ℕ → Codec Fields
fields least =
    pair (number 4) (λ _.
    pair (ruled 2 is_data_length) (λ _.
    pair (ruled 2 is_ratio) (λ ratio.
    pair (ruled 2 (within 1 ratio)) (λ _.
    pair (ruled 2 (within least MAX_FRAME)) (λ _.
    pair (constant 2 ETHERTYPE (lit< tt)) (λ _.
    pair (ruled 1 (within 0 MAX_PORTS)) (λ _.
    pair (constant 1 FRAME_DETAILS (lit< tt)) (λ _.
    pair (constant 1 TX_PORT_GROUPS (lit< tt)) (λ _.
    pair (number 1) (λ _.
    padding 2))))))))))

abbrev pub to_entry : Fields → Entry
to_entry a = record {
  send_offset = a.0;
  data_length = a.1.0;
  ratio = a.1.1.0;
  phase = a.1.1.1.0;
  frame = record { 0 = a.1.1.1.1.0 };
  rx_port = a.1.1.1.1.1.1.0;
  tx = a.1.1.1.1.1.1.1.1.1.0;
}

abbrev pub of_entry : Entry → Fields
of_entry e = (e.send_offset, (e.data_length, (e.ratio, (e.phase, (e.frame.0, (tt, (e.rx_port, (tt, (tt, (e.tx, tt))))))))))

-- a valid entry with a FrameID of `least` or more
abbrev pub IsEntryFrom : ℕ → Entry → Type 0
IsEntryFrom least e = IsEntry e × (least ≤ e.frame.0)

pub entry_fits : (least : ℕ) → MIN_FRAME ≤ least → (a : Fields) → (fields least).Fits a → IsEntryFrom least (to_entry a)
entry_fits least from a f =
    let phase = within_rule 1 a.1.1.0 a.1.1.1.0 f.1.1.1.0.1 in
    let frame = within_rule least MAX_FRAME a.1.1.1.1.0 f.1.1.1.1.0.1 in
    let port = within_rule 0 MAX_PORTS a.1.1.1.1.1.1.0 f.1.1.1.1.1.1.0.1 in (
      record {
        offset = f.0;
        length = data_length_rule a.1.0 f.1.0.1;
        rate = (ratio_rule a.1.1.0 f.1.1.0.1, phase);
        frame = (omega arith, frame.1);
        rx_port = port.1;
        tx = f.1.1.1.1.1.1.1.1.1.0;
      },
      frame.0,
    )

pub entry_back : (least : ℕ) (e : Entry) → IsEntryFrom least e → (fields least).Fits (of_entry e)
entry_back least e f =
    let len = f.0.length in
    let rate = f.0.rate in
    let frame = f.0.frame in
    let port = f.0.rx_port in
    let ratio = ratio_most e.ratio rate.0 in (
      f.0.offset,
      (
        (omega arith, data_length_again e.data_length len),
        (
          (omega arith, ratio_again e.ratio rate.0),
          (
            (omega arith, within_again 1 e.ratio e.phase rate.1),
            (
              (omega arith, within_again least MAX_FRAME e.frame.0 (f.1, frame.1)),
              (
                tt,
                (
                  (omega arith, within_again 0 MAX_PORTS e.rx_port (omega arith, port)),
                  (
                    tt,
                    (
                      tt,
                      (
                        f.0.tx,
                        tt,
                      ),
                    ),
                  ),
                ),
              ),
            ),
          ),
        ),
      ),
    )

pub entry_read : (least : ℕ) (extent : Extent) (bytes : List ℕ) → entry_at least extent bytes ≡ ((fields least).read extent bytes >>= λ x. Ok (to_entry x.0, x.1))
unfolding entry_at
entry_read least extent bytes =
    pair_steps _ _ extent bytes _ _ (λ offset.
    pair_steps _ _ extent offset.1 _ _ (λ len.
    pair_steps _ _ extent len.1 _ _ (λ ratio.
    pair_steps _ _ extent ratio.1 _ _ (λ phase.
    pair_steps _ _ extent phase.1 _ _ (λ frame.
    pair_steps _ _ extent frame.1 _ _ (λ ether.
    pair_steps _ _ extent ether.1 _ _ (λ port.
    pair_steps _ _ extent port.1 _ _ (λ details.
    pair_steps _ _ extent details.1 _ _ (λ groups.
    pair_steps _ _ extent groups.1 _ _ (λ tx. refl))))))))))

pub entry_sure : (least : ℕ) (extent : Extent) (bytes : List ℕ) → IsSure (entry_at least extent bytes)
entry_sure least extent bytes = sure_along _ _ (entry_read least extent bytes) (sure_map ((fields least).read extent bytes) (λ x. (to_entry x.0, x.1)) ((fields least).sure extent bytes))

pub entry_spell : (least : ℕ) (e : Entry) → entry_bytes e ≡ (fields least).spell (of_entry e)
entry_spell least e = simp append_assoc

abbrev pub entry_codec : (least : ℕ) → MIN_FRAME ≤ least → Codec Entry
entry_codec least from = view (fields least) to_entry of_entry entry_bytes (IsEntryFrom least) (entry_at least) (record {
  spell_is = entry_spell least;
  read_is = entry_read least;
  fits = λ a f. (entry_fits least from a f, refl);
  back = λ e f. (entry_back least e f, refl);
})
