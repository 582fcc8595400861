-- The fields of a sync block by groups are those from left to right.
use Rattle.std.proofs.Common.{◌≡◌, ℕ, List, Result, Ok, Err, refl}
use Rattle.irt_block.specs.declared.extent.Extent.{Extent}
use Rattle.irt_block.specs.declared.fault.BlockFault.{BlockFault}
use Rattle.irt_base.specs.declared.limits.TheConstants.{MAX_WINDOW, MAX_FACTOR, MAX_DOMAIN_NAME}
use Rattle.irt_block.specs.declared.bytes.ByteClass.TheVariants.{Letter}
use Rattle.irt_block.specs.Reading.{◌>>=◌, raw_at, number_at, ruled_at, within, constant_at, class_at, pad_at}
use Rattle.pd_blocks.specs.Sync.{last_pad, sync_fields_at, sync_groups_at}

-- a first step of a group is a first step of the whole
step : {A B C : Type 0} (o : Result A BlockFault) (f : A → Result B BlockFault) (g : B → Result C BlockFault) (h : A → Result C BlockFault)
    → ((x : A) → (f x >>= g) ≡ h x) → ((o >>= f) >>= g) ≡ (o >>= h)
step (Ok x) f g h next = next x
step (Err e) f g h next = refl

pub sync_grouped : (extent : Extent) (bytes : List ℕ) → sync_groups_at extent bytes ≡ sync_fields_at extent bytes
unfolding sync_fields_at
sync_grouped extent bytes =
    step (pad_at 2 extent bytes) _ _ _ (λ pad.
    step (raw_at 16 extent pad.1) _ _ _ (λ subdomain.
    step (constant_at 4 0 extent subdomain.1) _ _ _ (λ reserved_begin.
    step (constant_at 4 0 extent reserved_begin.1) _ _ _ (λ reserved_end.
    step (ruled_at 4 (within 0 MAX_WINDOW) extent reserved_end.1) _ _ _ (λ window.
    step (number_at 4 extent window.1) _ _ _ (λ send.
    step (ruled_at 2 (within 1 MAX_FACTOR) extent send.1) _ _ _ (λ factor.
    step (number_at 2 extent factor.1) _ _ _ (λ timeout.
    step (number_at 2 extent timeout.1) _ _ _ (λ takeover.
    step (number_at 2 extent takeover.1) _ _ _ (λ startup.
    step (number_at 2 extent startup.1) _ _ _ (λ properties.
    step (number_at 1 extent properties.1) _ _ _ (λ priority1.
    step (number_at 1 extent priority1.1) _ _ _ (λ priority2.
    step (ruled_at 1 (within 1 MAX_DOMAIN_NAME) extent priority2.1) _ _ _ (λ letters.
    step (class_at Letter letters.0 extent letters.1) _ _ _ (λ name.
    step (pad_at (last_pad letters.0) extent name.1) _ _ _ (λ last. refl))))))))))))))))
