-- Bytes with some of their bits replaced.
use Rattle.std.proofs.Common.{◌≡◌, ℕ, suc, ◌+◌, ◌-◌, ◌*◌, ◌/◌, ◌%◌, ◌^◌, ◌<◌, ◌≤◌, List, [], ◌∷◌, ◌++◌, length, get_or, set, sym, refl, ap, ◌∙◌, ⊎_elim, arith, length-set, get_or-set_other, get_or-set_same}
use Rattle.std.proofs.lemmas.List.{ext_get_or, set-append_left, get_or_append_left}
use Rattle.std.proofs.lemmas.Bool.{cases_eq}
use Rattle.bits.specs.Bits.{bits_of, Bytes}
use Rattle.bits.specs.Overwriting.{with_bit, set_bit, set_bits, written, BitsOverwritten}
use Rattle.bits.proofs.BitLists.{length_bits, get_d_bits}
use Rattle.bits.proofs.Bytes.{with_bit_here, with_bit_other, with_bit_fits}

-- no bits
pub set_bits_none : (bytes : List ℕ) (at : ℕ) → set_bits bytes at [] ≡ bytes
unfolding set_bits
set_bits_none bytes at = refl

-- one bit, then the others
pub set_bits_more : (bytes : List ℕ) (at b : ℕ) (bs : List ℕ) → set_bits bytes at (b ∷ bs) ≡ set_bits (set_bit bytes at b) (at + 1) bs
unfolding set_bits
set_bits_more bytes at b bs = refl

-- one bit replaced leaves the length
pub length-set_bit : (bytes : List ℕ) (i b : ℕ) → length (set_bit bytes i b) ≡ length bytes
length-set_bit bytes i b = length-set bytes (i / 8) (with_bit (get_or bytes (i / 8) 0) (7 - i % 8) b)

-- so do many
pub length-set_bits : (bytes : List ℕ) (at : ℕ) (bs : List ℕ) → length (set_bits bytes at bs) ≡ length bytes
unfolding set_bits
length-set_bits bytes at [] = refl
length-set_bits bytes at (b ∷ bs) = length-set_bits (set_bit bytes at b) (at + 1) bs ∙ length-set_bit bytes at b

-- bits put one part after the other
pub set_bits-append : (bytes : List ℕ) (at : ℕ) (a b : List ℕ) → set_bits bytes at (a ++ b) ≡ set_bits (set_bits bytes at a) (at + length a) b
unfolding set_bits
set_bits-append bytes at [] b = let e : at ≡ at + 0 = omega arith in ap (λ n. set_bits bytes n b) e
set_bits-append bytes at (x ∷ a) b =
    let e : at + 1 + length a ≡ at + suc (length a) = omega arith in
    set_bits-append (set_bit bytes at x) (at + 1) a b ∙ ap (λ n. set_bits (set_bits (set_bit bytes at x) (at + 1) a) n b) e

-- the bit that is replaced
pub bit-set_here : (bytes : List ℕ) (i b : ℕ) → i < 8 * length bytes → b < 2 → get_or (bits_of (set_bit bytes i b)) i 0 ≡ b
bit-set_here bytes i b h l =
    let k : i / 8 < length bytes = omega arith in
    get_d_bits (set_bit bytes i b) i ∙ rw (get_or-set_same bytes (i / 8) (with_bit (get_or bytes (i / 8) 0) (7 - i % 8) b) 0 k) (with_bit_here (get_or bytes (i / 8) 0) (7 - i % 8) b l)

-- every other bit
pub bit-set_other : (bytes : List ℕ) (i b : ℕ) → i < 8 * length bytes → b < 2 → (j : ℕ) → (j ≡ i → ⊥) → get_or (bits_of (set_bit bytes i b)) j 0 ≡ get_or (bits_of bytes) j 0
bit-set_other bytes i b h l j n =
    let x = get_or bytes (i / 8) 0 in
    let y = with_bit x (7 - i % 8) b in
    let k : i / 8 < length bytes = omega arith in
    let e : get_or (set_bit bytes i b) (j / 8) 0 / 2 ^ (7 - j % 8) % 2 ≡ get_or bytes (j / 8) 0 / 2 ^ (7 - j % 8) % 2 =
    ⊎_elim
    (λ (e : j / 8 ≡ i / 8).
    let t : 7 - j % 8 ≡ 7 - i % 8 → ⊥ = λ u. n (omega arith) in
    rw (e, get_or-set_same bytes (i / 8) y 0 k) (with_bit_other x (7 - i % 8) b (7 - j % 8) l t))
    (λ (e : j / 8 ≡ i / 8 → ⊥). ap (λ v. v / 2 ^ (7 - j % 8) % 2) (get_or-set_other bytes (i / 8) (j / 8) y 0 e))
    (cases_eq (j / 8) (i / 8)) in
    get_d_bits (set_bit bytes i b) j ∙ e ∙ sym (get_d_bits bytes j)

-- one bit replaced is one element of the list of bits replaced
pub bits_set_bit : (bytes : List ℕ) (i b : ℕ) → i < 8 * length bytes → b < 2 → bits_of (set_bit bytes i b) ≡ set (bits_of bytes) i b
bits_set_bit bytes i b h l =
    let n : length (bits_of (set_bit bytes i b)) ≡ length (set (bits_of bytes) i b) = simp length-set (omega (arith, length_bits (set_bit bytes i b), length_bits bytes, length-set_bit bytes i b)) in
    ext_get_or 0 (bits_of (set_bit bytes i b)) (set (bits_of bytes) i b) n (λ j _.
    ⊎_elim
    (λ (e : j ≡ i). rw e (bit-set_here bytes i b h l ∙ sym (get_or-set_same (bits_of bytes) i b 0 (omega (arith, length_bits bytes)))))
    (λ (e : j ≡ i → ⊥). bit-set_other bytes i b h l j e ∙ sym (get_or-set_other (bits_of bytes) i j b 0 e))
    (cases_eq j i))

-- bits replaced in bytes are a part of their list of bits overwritten
pub bits_overwritten : BitsOverwritten
unfolding set_bits written
bits_overwritten bytes [] at h l = refl
bits_overwritten bytes (b ∷ bs) at h l =
    bits_overwritten (set_bit bytes at b) bs (at + 1) (omega (arith, length-set_bit bytes at b)) (λ i. l (suc i)) ∙ ap (λ x. written x (at + 1) bs) (bits_set_bit bytes at b (omega arith) (l 0))

-- bytes stay bytes
pub bytes_set_bit : (bytes : List ℕ) (i b : ℕ) → Bytes bytes → b < 2 → i < 8 * length bytes → Bytes (set_bit bytes i b)
bytes_set_bit bytes i b h l u j =
    let x = get_or bytes (i / 8) 0 in
    let y = with_bit x (7 - i % 8) b in
    ⊎_elim
    (λ (e : j ≡ i / 8). rw (e, get_or-set_same bytes (i / 8) y 0 (omega arith)) (with_bit_fits x (7 - i % 8) b (h (i / 8)) (omega arith) l))
    (λ (e : j ≡ i / 8 → ⊥). rw (get_or-set_other bytes (i / 8) j y 0 e) (h j))
    (cases_eq j (i / 8))

-- so they do at many bits
pub bytes_set_bits : (bytes : List ℕ) (at : ℕ) (bs : List ℕ) → Bytes bytes → ((i : ℕ) → get_or bs i 0 < 2) → at + length bs ≤ 8 * length bytes → Bytes (set_bits bytes at bs)
unfolding set_bits
bytes_set_bits bytes at [] h l u = h
bytes_set_bits bytes at (b ∷ bs) h l u = bytes_set_bits (set_bit bytes at b) (at + 1) bs (bytes_set_bit bytes at b h (l 0) (omega arith)) (λ i. l (suc i)) (omega (arith, length-set_bit bytes at b))

-- bytes after those that hold the bits stay as they are
pub set_bits_left : (bytes rest : List ℕ) (at : ℕ) (bs : List ℕ) → at + length bs ≤ 8 * length bytes → set_bits (bytes ++ rest) at bs ≡ set_bits bytes at bs ++ rest
unfolding set_bits
set_bits_left bytes rest at [] h = refl
set_bits_left bytes rest at (b ∷ bs) h =
    let k : at / 8 < length bytes = omega arith in
    let g : get_or (bytes ++ rest) (at / 8) 0 ≡ get_or bytes (at / 8) 0 = get_or_append_left bytes rest 0 (at / 8) k in
    let e : set_bit (bytes ++ rest) at b ≡ set_bit bytes at b ++ rest = rw g (set-append_left bytes rest (at / 8) (with_bit (get_or bytes (at / 8) 0) (7 - at % 8) b) k) in
    ap (λ x. set_bits x (at + 1) bs) e ∙ set_bits_left (set_bit bytes at b) rest (at + 1) bs (omega (arith, length-set_bit bytes at b))
