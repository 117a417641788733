-- Laws by which the elements of a vector give its places and its count back. They stand here, since the type asks for them.
use Rattle.std.specs.Prelude.{◌≡◌, ℕ, ◌-◌, ◌≤◌, List, length, take, replicate}
use Rattle.std.proofs.Common.{ap, arith, length-append}
use Rattle.std.proofs.lemmas.List.{length-replicate, length-take}
use Rattle.layout.specs.Vectors.{padded}

pub length-padded : {A : Type 0} (n : ℕ) (d : A) (xs : List A) → length xs ≤ n → length (padded n d xs) ≡ n
length-padded n d xs h = omega (arith, length-append xs (replicate (n - length xs) d), length-replicate (n - length xs) d)

-- places that are blank past the first k have k elements
pub counted : {A : Type 0} (n : ℕ) (d : A) (places : List A) (k : ℕ) → k ≤ n → places ≡ padded n d (take k places) → length (take k places) ≡ k
counted n d places k h e =
    let front = take k places in
    let whole = length-append front (replicate (n - length front) d) in
    let past = length-replicate (n - length front) d in
    let all : length places ≡ length (padded n d front) = ap length e in
    let part = length-take k places in
    grind (arith, whole, past, all, part)
