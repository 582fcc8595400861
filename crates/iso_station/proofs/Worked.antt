-- Worked values: device 0 sends frame 0x100 in cycle 3, with 39 zero bytes and a good IOPS.
use Rattle.std.proofs.Common.{◌≡◌, [], ◌∷◌, ◌++◌, replicate, refl}
use Rattle.irt_base.specs.declared.blocks.Entry.{Entry}
use Rattle.iso_station.specs.Mark.{counter_of, IsGood}
use Rattle.iso_station.specs.Provider.{ProviderState, sent_frame}

abbrev sender : ProviderState
sender = record { device = 0; factor = 32; entries = [] }

abbrev own : Entry
own = record { send_offset = 0; data_length = 40; ratio = 1; phase = 1; frame = record { 0 = 0x100 }; rx_port = 0; tx = 2 }

counter_3 : counter_of 32 3 ≡ 0x60
counter_3 = refl

frame_3 : sent_frame sender 3 own (0 ∷ 0 ∷ 0 ∷ 0 ∷ 0x80 ∷ [])
    ≡ (0x03 ∷ 0x00 ∷ 0x00 ∷ 0x00 ∷ 0x01 ∷ 0x00 ∷ 0x02 ∷ 0x00 ∷ 0x00 ∷ 0x00 ∷ 0x00 ∷ 0x00 ∷ 0x88 ∷ 0x92 ∷ 0x01 ∷ 0x00 ∷ [])
    ++ (replicate 39 0 ++ (0x80 ∷ 0x00 ∷ 0x60 ∷ 0x35 ∷ 0x00 ∷ []))
frame_3 = refl

good : IsGood 0x35
good = (λ zero_is. cc, λ zero_is. cc)
