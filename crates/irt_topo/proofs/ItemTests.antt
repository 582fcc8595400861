-- What the tests of one item say, and the other way round.
use Rattle.std.proofs.Common.{◌≡◌, ◌%◌, ◌==◌, ℕ, nat_le, Bool, true, false, not, ◌&&◌, ◌⊎◌, List, [], ◌∷◌, length, refl, arith}
use Rattle.std.proofs.lemmas.Bool.{and_parts, and_from, or_parts, or_from, not-true, not_from_false, leb-true, le-leb, ltb-true, lt-ltb, eqb-true, eq-eqb}
use Rattle.std.proofs.lemmas.Bool.Decides.{nat_tests}
use Rattle.std.specs.List.{AllByRecursion, IsDistinct, list_any, list_all}
use Rattle.irt_base.specs.Valid.{IsWithin, IsDataLength, IsPortDelay}
use Rattle.irt_base.specs.declared.limits.TheConstants.{MAX_NAME, MAX_DELAY, MIN_DATA, MAX_DATA, DATA_STEP, MAX_SEND, MAX_TIMEOUT, MAX_DRIFT, MAX_STAMP, MIN_LOSS, MAX_LOSS, MAX_WORDS}
use Rattle.irt_base.specs.declared.numbers.DevId.{DevId}
use Rattle.irt_base.specs.declared.blocks.PortDelay.{PortDelay}
use Rattle.irt_base.specs.declared.plants.SyncPlan.{SyncPlan}
use Rattle.irt_base.specs.declared.plants.Plant.{Plant}
use Rattle.plant_rules.specs.Words.{is_within, words_where, consumes, provides}
use Rattle.irt_topo.specs.Rules.{is_name_byte, is_name, is_port_delay, is_device, all_differ, is_loss, is_sync_plan, words_hold}
use Rattle.plant_rules.specs.Meets.{IsName, IsNameByte, IsConsumer, same_device, IsSyncPlan, HasWords}
use Rattle.irt_topo.proofs.Passing.{AllByRecursion-from_list_all, list_all-from_AllByRecursion}

pub within : (low high n : ℕ) → is_within low high n ≡ true → IsWithin low high n
within low high n h =
    let (above, below) = and_parts (nat_le low n) (nat_le n high) h in (leb-true low n above, leb-true n high below)

pub within-back : (low high n : ℕ) → IsWithin low high n → is_within low high n ≡ true
within-back low high n h = and_from (nat_le low n) (nat_le n high) (le-leb low n h.0) (le-leb n high h.1)

name_byte : (b : ℕ) → is_name_byte b ≡ true → IsNameByte b
name_byte b h = grind (arith, nat_tests)

name_byte-back : (b : ℕ) → IsNameByte b → is_name_byte b ≡ true
name_byte-back b h = grind (arith, nat_tests)

pub name : (bytes : List ℕ) → is_name bytes ≡ true → IsName bytes
name bytes h =
    let (size, letters) = and_parts (is_within 1 MAX_NAME (length bytes)) (list_all is_name_byte bytes) h in
    record {
      length = within 1 MAX_NAME (length bytes) size;
      letters = AllByRecursion-from_list_all is_name_byte IsNameByte name_byte bytes letters;
    }

pub name-back : (bytes : List ℕ) → IsName bytes → is_name bytes ≡ true
name-back bytes h =
    and_from (is_within 1 MAX_NAME (length bytes)) (list_all is_name_byte bytes) (within-back 1 MAX_NAME (length bytes) h.length)
    (list_all-from_AllByRecursion is_name_byte IsNameByte name_byte-back bytes h.letters)

pub port_delay : (p : PortDelay) → is_port_delay p ≡ true → IsPortDelay p
port_delay p h =
    let (tx, rx) = and_parts (nat_le p.tx MAX_DELAY) (nat_le p.rx MAX_DELAY) h in
    record { tx = leb-true p.tx MAX_DELAY tx; rx = leb-true p.rx MAX_DELAY rx }

pub port_delay-back : (p : PortDelay) → IsPortDelay p → is_port_delay p ≡ true
port_delay-back p h = and_from (nat_le p.tx MAX_DELAY) (nat_le p.rx MAX_DELAY) (le-leb p.tx MAX_DELAY h.tx) (le-leb p.rx MAX_DELAY h.rx)

-- no item passes
pub none_of : {A : Type 0} (test : A → Bool) (xs : List A) → list_any test xs ≡ false → AllByRecursion (λ x. test x ≡ false) xs
none_of test [] h = tt
none_of test (x ∷ xs) h = let (here, more) = or_parts (test x) (list_any test xs) h in (here, none_of test xs more)

pub none_of-back : {A : Type 0} (test : A → Bool) (xs : List A) → AllByRecursion (λ x. test x ≡ false) xs → list_any test xs ≡ false
none_of-back test [] h = refl
none_of-back test (x ∷ xs) h = or_from (test x) (list_any test xs) h.0 (none_of-back test xs h.1)

pub differ : (ds : List DevId) → all_differ ds ≡ true → IsDistinct same_device ds
unfolding IsDistinct
differ [] h = tt
differ (d ∷ ds) h =
    let (here, more) = and_parts (not (list_any (λ (e : DevId). e.0 == d.0) ds)) (all_differ ds) h in
    (none_of (λ (e : DevId). e.0 == d.0) ds (not-true _ here), differ ds more)

pub differ-back : (ds : List DevId) → IsDistinct same_device ds → all_differ ds ≡ true
unfolding IsDistinct
differ-back [] h = refl
differ-back (d ∷ ds) h =
    and_from (not (list_any (λ (e : DevId). e.0 == d.0) ds)) (all_differ ds)
    (not_from_false _ (none_of-back (λ (e : DevId). e.0 == d.0) ds h.0)) (differ-back ds h.1)

pub consumer : (p : Plant) (provider c : DevId) → (is_device p c.0 && not (c.0 == provider.0)) ≡ true → IsConsumer p provider c
consumer p provider c h =
    let (device, other) = and_parts (is_device p c.0) (not (c.0 == provider.0)) h in
    record { device = ltb-true c.0 (length p.devices) device; other = not-true _ other }

pub consumer-back : (p : Plant) (provider c : DevId) → IsConsumer p provider c → (is_device p c.0 && not (c.0 == provider.0)) ≡ true
consumer-back p provider c h =
    and_from (is_device p c.0) (not (c.0 == provider.0)) (lt-ltb c.0 (length p.devices) h.device) (not_from_false _ h.other)

pub data_length : (n : ℕ) → (is_within MIN_DATA MAX_DATA n && n % DATA_STEP == 0) ≡ true → IsDataLength n
data_length n h =
    let (range, step) = and_parts (is_within MIN_DATA MAX_DATA n) (n % DATA_STEP == 0) h in
    (within MIN_DATA MAX_DATA n range, eqb-true (n % DATA_STEP) 0 step)

pub data_length-back : (n : ℕ) → IsDataLength n → (is_within MIN_DATA MAX_DATA n && n % DATA_STEP == 0) ≡ true
data_length-back n h =
    and_from (is_within MIN_DATA MAX_DATA n) (n % DATA_STEP == 0) (within-back MIN_DATA MAX_DATA n h.0) (eq-eqb (n % DATA_STEP) 0 h.1)

loss : (n : ℕ) → is_loss n ≡ true → (n ≡ 0) ⊎ IsWithin MIN_LOSS MAX_LOSS n
loss n h = grind (arith, nat_tests)

loss-back : (n : ℕ) → (n ≡ 0) ⊎ IsWithin MIN_LOSS MAX_LOSS n → is_loss n ≡ true
loss-back n h = grind (arith, nat_tests)

pub sync_plan : (s : SyncPlan) → is_sync_plan s ≡ true → IsSyncPlan s
sync_plan s h =
    let (four, is_loss_) = and_parts _ (is_loss s.loss) h in
    let (three, stamp) = and_parts _ (nat_le s.stamp MAX_STAMP) four in
    let (two, drift) = and_parts _ (nat_le s.drift MAX_DRIFT) three in
    let (send, timeout) = and_parts (is_within 1 MAX_SEND s.send) (is_within 1 MAX_TIMEOUT s.timeout) two in
    record {
      send = within 1 MAX_SEND s.send send;
      timeout = within 1 MAX_TIMEOUT s.timeout timeout;
      drift = leb-true s.drift MAX_DRIFT drift;
      stamp = leb-true s.stamp MAX_STAMP stamp;
      loss = loss s.loss is_loss_;
    }

pub sync_plan-back : (s : SyncPlan) → IsSyncPlan s → is_sync_plan s ≡ true
sync_plan-back s h =
    and_from _ (is_loss s.loss)
    (and_from _ (nat_le s.stamp MAX_STAMP)
    (and_from _ (nat_le s.drift MAX_DRIFT)
    (and_from (is_within 1 MAX_SEND s.send) (is_within 1 MAX_TIMEOUT s.timeout) (within-back 1 MAX_SEND s.send h.send)
    (within-back 1 MAX_TIMEOUT s.timeout h.timeout))
    (le-leb s.drift MAX_DRIFT h.drift))
    (le-leb s.stamp MAX_STAMP h.stamp))
    (loss-back s.loss h.loss)

pub words : (p : Plant) (device : ℕ) → words_hold p device ≡ true → HasWords p device
words p device h =
    let (consumed, provided) =
    and_parts (nat_le (words_where (consumes device) p.demands) MAX_WORDS) (nat_le (words_where (provides device) p.demands) MAX_WORDS) h in
    record { consumed = leb-true _ MAX_WORDS consumed; provided = leb-true _ MAX_WORDS provided }

pub words-back : (p : Plant) (device : ℕ) → HasWords p device → words_hold p device ≡ true
words-back p device h =
    and_from (nat_le (words_where (consumes device) p.demands) MAX_WORDS) (nat_le (words_where (provides device) p.demands) MAX_WORDS)
    (le-leb _ MAX_WORDS h.consumed) (le-leb _ MAX_WORDS h.provided)
