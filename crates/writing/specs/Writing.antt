-- Fields written over the bits of bytes.
use Rattle.std.specs.Prelude.{◌≡◌, ℕ, ◌+◌, ◌≤◌, List, [], ◌∷◌}
use Rattle.bits.specs.Bits.{digits}
use Rattle.bits.specs.Overwriting.{set_bits}
use Rattle.syntax.specs.Encoder.{Field}
use Rattle.writing.specs.declared.writer.BitWriter.{BitWriter}

-- how many bits the fields take
abbrev pub size : List Field → ℕ
size [] = 0
size (f ∷ fs) = f.0 + size fs

-- the bytes with the fields over their bits from `at` on
abbrev pub put_fields : List ℕ → ℕ → List Field → List ℕ
put_fields out at [] = out
put_fields out at (f ∷ fs) = put_fields (set_bits out at (digits f.0 f.1)) (at + f.0) fs

-- the fields fit into 2,048 bytes from where the writer stands
pub record Room (fs : List Field) (w : BitWriter) : Type 0 where
  pub bits : w.at + size fs ≤ 16384

-- the fields, and nothing else, were written, and the writer stands after them
pub record Wrote (fs : List Field) (w w' : BitWriter) : Type 0 where
  pub place : w'.at ≡ w.at + size fs
  pub bytes : w'.out.now ≡ put_fields w.out.now w.at fs
  pub same_bytes : w'.out.ghost_name ≡ w.out.ghost_name
  pub same_cells : w'.cells.now ≡ w.cells.now
