-- Reading in a loop: what is still read goes on as all of it does.
use Rattle.std.proofs.Common.{◌≡◌, ◌<◌, ◌-◌, ◌+◌, ◌==◌, true, false, Bool, if◌then◌else◌, ℕ, zero, suc, List, [], ◌∷◌, drop, length, Option, Some, None, Result, Err, refl, sym, ◌∙◌, ap, arith}
use Rattle.std.proofs.lemmas.Option.{none-some}
use Rattle.world_file.specs.Reading.{◌>>=◌, Gives, after_byte, each_read, links_read, number_read, with_link}
use Rattle.world_file.specs.declared.draft.Draft.{Draft}
use Rattle.world_file.specs.declared.fault.LineFault.{LineFault}
use Rattle.world_file.specs.declared.fault.LineFault.TheVariants as faults
use Rattle.world_file.specs.declared.number.Number.{Number}

-- no number comes where one is wanted
pub each_stops : {X : Type 0} (step : Draft → X → Number → Draft) (xs : List X) (i : ℕ) (d : Draft) (bytes : List ℕ) (whole : Option (Draft × List ℕ)) →
    i < length xs → number_read bytes ≡ None → each_read step (drop i xs) d bytes ≡ whole → whole ≡ None
each_stops step [] i d bytes whole below none is = absurd (omega arith)
each_stops step (x ∷ xs) zero d bytes whole below none is =
    sym is ∙ ap (λ (r : Option (Number × List ℕ)). r >>= λ y. each_read step xs (step d x y.0) y.1) none
each_stops step (x ∷ xs) (suc i) d bytes whole below none is = each_stops step xs i d bytes whole (omega arith) none is

-- what a `?` passes on
pub form_passed : {A Y : Type 0} (view : A → Y) (r : Result A LineFault) (e : LineFault) (read : Option Y) → r ≡ Err e → e ≡ faults.Form →
    read ≡ None → Gives view r read
form_passed view r e read is same none = rw (is, same) none

no_number : (m : Number) (rest : List ℕ) → number_read [] ≡ Some (m, rest) → ⊥
unfolding number_read
no_number m rest read = none-some _ read

-- another byte comes first
pub not_first : (b byte : ℕ) (bs : List ℕ) → after_byte byte (b ∷ bs) ≡ None → (b == byte) ≡ false
not_first b byte bs none = go (b == byte) none where
  go : (test : Bool) → (if test then Some bs else None) ≡ None → test ≡ false
  go true is = absurd (none-some bs (sym is))
  go false is = refl

-- one more link is read
pub links_go_on : (links total counter : ℕ) (d e : Draft) (bytes : List ℕ) (m : Number) (rest : List ℕ) (whole : Option (Draft × List ℕ)) → counter < total →
    after_byte 10 bytes ≡ None → number_read bytes ≡ Some (m, rest) → e ≡ with_link links d m →
    links_read links (total - counter) d bytes ≡ whole → links_read links (total - (counter + 1)) e rest ≡ whole
links_go_on links total counter d e [] m rest whole below none read is stands = absurd (no_number m rest read)
links_go_on links total counter d e (b ∷ bs) m rest whole below none read is stands =
    let one_more : total - counter ≡ suc (total - (counter + 1)) = omega arith in
    let no_end : (b == 10) ≡ false = not_first b 10 bs none in
    rw is
    (rw (one_more, no_end, read) at stands)
