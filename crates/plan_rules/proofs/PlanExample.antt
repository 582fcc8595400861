-- The pair of devices is a plan: its plant meets its rules, and its blocks are valid.
use Rattle.std.proofs.Common.{◌≡◌, ℕ, zero, suc, ◌<◌, ◌≤◌, ◌^◌, true, inl, List, [], ◌∷◌, refl, arith, replicate, lit<, lit≤, slice_index_or, ltb}
use Rattle.std.specs.List.{AllByRecursion, IsDistinct, list_all}
use Rattle.std.proofs.lemmas.Bool.{ltb-true, and_parts}
use Rattle.irt_base.specs.Valid.{IsEntry, IsBundle, IsAssignment, IsPhasePair, AreBytes}
use Rattle.irt_base.specs.declared.blocks.Assignment.{Assignment}
use Rattle.irt_base.specs.declared.blocks.Bundle.{Bundle}
use Rattle.irt_base.specs.declared.blocks.Entry.{Entry}
use Rattle.plant_rules.specs.Meets.{IsDevice, MeetsRules, HasWords}
use Rattle.plan_rules.specs.Places.{IsLess, IsReject, place_of}
use Rattle.plan_rules.specs.Plan.{IsPlan}
use Rattle.plan_rules.specs.Rules.{KeepsRule}
use Rattle.plan_rules.specs.declared.place.Place.{Place}
use Rattle.plan_rules.proofs.PairExample.{device, pair, entry, own, leaf, sending, receiving, identifier, bundle, first, second, bundles}

-- ---- the plant

valid_device : (letter : ℕ) → 97 ≤ letter → letter ≤ 122 → IsDevice (device letter)
valid_device letter low high = record {
  name = record { length = (lit≤ tt, lit≤ tt); letters = (inl (low, high), tt) };
  port_count = (lit≤ tt, lit≤ tt);
  ports = (record { tx = lit≤ tt; rx = lit≤ tt }, tt);
  bridge_order = lit≤ tt;
  bridge = lit≤ tt;
}

words : (device : ℕ) → device < 2 → HasWords pair device
words zero there = record { consumed = lit≤ tt; provided = lit≤ tt }
words (suc zero) there = record { consumed = lit≤ tt; provided = lit≤ tt }
words (suc (suc device)) there = absurd (omega (arith, there))

pub meets : MeetsRules pair
unfolding IsDistinct
meets = record {
  factor = (lit≤ tt, lit≤ tt);
  window = lit≤ tt;
  periods = lit≤ tt;
  device_count = (lit≤ tt, lit≤ tt);
  devices = (valid_device 97 (lit≤ tt) (lit≤ tt), (valid_device 98 (lit≤ tt) (lit≤ tt), tt));
  names_differ = ((refl, tt), (tt, tt));
  links = (record { first_port = refl; second_port = refl; two_devices = refl; delay = lit≤ tt; there = lit≤ tt; back = lit≤ tt }, tt);
  ports_differ = (tt, tt);
  demand_count = lit≤ tt;
  demands = (
    record {
      frame = (lit≤ tt, lit≤ tt);
      provider = lit< tt;
      some_consumer = lit≤ tt;
      consumers = (record { device = lit< tt; other = refl }, tt);
      consumers_differ = (tt, tt);
      length = ((lit≤ tt, lit≤ tt), refl);
      update = lit≤ tt;
    },
    tt,
  );
  frames_differ = (tt, tt);
  traffic_count = lit≤ tt;
  traffic = tt;
  apps = tt;
  app_devices_differ = tt;
  words = words;
  sync = record { send = (lit≤ tt, lit≤ tt); timeout = (lit≤ tt, lit≤ tt); drift = lit≤ tt; stamp = lit≤ tt; loss = inl refl };
  clocks = λ ptcp. absurd (cc);
}

-- ---- the blocks

small_bytes : (xs : List ℕ) → list_all (λ b. ltb b 256) xs ≡ true → AreBytes xs
small_bytes [] all = tt
small_bytes (x ∷ xs) all =
    let (small, more) = and_parts (ltb x 256) (list_all (λ b. ltb b 256) xs) all in
    (ltb-true x 256 small, small_bytes xs more)

all_replicate : {A : Type 0} (P : A → Type 0) (n : ℕ) (x : A) → P x → AllByRecursion P (replicate n x)
all_replicate P zero x is = tt
all_replicate P (suc n) x is = (is, all_replicate P n x is)

valid_bundle : (role : ℕ) (e : Entry) (a : Assignment) → role < 2 ^ 16 → IsEntry e → IsAssignment a → IsBundle (bundle role e a)
valid_bundle role e a small valid assignment = record {
  sync = record {
    subdomain = (refl, small_bytes identifier refl);
    window = lit≤ tt;
    send = lit< tt;
    factor = (lit≤ tt, lit≤ tt);
    timeout = lit< tt;
    takeover = lit< tt;
    startup = lit< tt;
    properties = small;
    priority1 = lit< tt;
    priority2 = lit< tt;
    name = (lit≤ tt, lit≤ tt);
    letters = (inl (lit≤ tt, lit≤ tt), (inl (lit≤ tt, lit≤ tt), (inl (lit≤ tt, lit≤ tt), tt)));
  };
  slot = lit< tt;
  subslot = lit< tt;
  global = record {
    uuid = (refl, small_bytes identifier refl);
    bridge = lit≤ tt;
    count = (lit≤ tt, lit≤ tt);
    ports = (record { tx = lit≤ tt; rx = lit≤ tt }, tt);
  };
  frames = record { count = lit≤ tt; each = (valid, tt); ascending = λ k next. absurd (omega (arith, next)) };
  periods = record {
    first = (lit≤ tt, lit≤ tt);
    last = (lit≤ tt, lit≤ tt);
    count = (lit≤ tt, lit≤ tt);
    ports = (
      record {
        count = (lit≤ tt, lit≤ tt);
        assignments = (assignment, tt);
        sixteen = refl;
        phases = all_replicate (IsPhasePair 1) 16 (record { tx = 0; rx = 0 }) (record { tx = lit< tt; rx = lit< tt });
      },
      tt,
    );
  };
}

valid_entry : (rx_port tx : ℕ) → rx_port ≤ 7 → tx < 2 ^ 8 → IsEntry (entry rx_port tx)
valid_entry rx_port tx port byte = record {
  offset = lit< tt;
  length = ((lit≤ tt, lit≤ tt), refl);
  rate = (inl refl, (lit≤ tt, lit≤ tt));
  frame = (lit≤ tt, lit≤ tt);
  rx_port = port;
  tx = byte;
}

valid : (k : ℕ) (d : Bundle) → k < 2 → IsBundle (slice_index_or bundles k d)
valid zero d there =
    valid_bundle 1 own sending (lit< tt) (valid_entry 0 2 (lit≤ tt) (lit< tt))
    (record { tx = record { red = lit< tt; orange = lit< tt; green = lit< tt }; rx = record { red = lit< tt; orange = lit< tt; green = lit< tt } })
valid (suc zero) d there =
    valid_bundle 2 leaf receiving (lit< tt) (valid_entry 1 1 (lit≤ tt) (lit< tt))
    (record { tx = record { red = lit< tt; orange = lit< tt; green = lit< tt }; rx = record { red = lit< tt; orange = lit< tt; green = lit< tt } })
valid (suc (suc k)) d there = absurd (omega (arith, there))

pub is_plan : IsPlan pair bundles
is_plan = record { rules = meets; blocks = valid; count = refl }

-- With a window of 999 in the first bundle V1 fails there, and so before all others.
abbrev narrow : Bundle
narrow = record first { sync = record first.sync { window = 999 } }

rejected : IsReject pair (narrow ∷ second ∷ []) (record { rule = 1; place = place_of 0 0 0 })
rejected = record {
  fails = record { breaks = λ repeats. absurd (omega (arith, (repeats (device 97) narrow narrow refl refl refl).window)); least = λ before less. absurd (none_before before less) };
  first = none_below;
}
  where
    none_before : (before : Place) → ¬ IsLess before (place_of 0 0 0)
    none_before before less = grind arith

    none_below : (number : ℕ) (at : Place) → number < 1 → KeepsRule pair (narrow ∷ second ∷ []) number at
    none_below zero at below = tt
    none_below (suc number) at below = absurd (omega (arith, below))
