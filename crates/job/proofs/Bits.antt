-- The marks of a word, one by one. Assumes nothing.
use Rattle.std.proofs.Common.{◌≡◌, ℕ, ◌*◌, ◌%◌, ◌^◌, ◌<◌, cond, not, eqb, arith}
use Rattle.std.specs.Int.RustNames.{bit_xor}
use Rattle.std.proofs.lemmas.Grind.{common_steps}
use Rattle.std.proofs.lemmas.Nat.{one_shl}
use Rattle.std.proofs.lemmas.Nat.Bits.{bit_at_xor, bit_at-pow_same, bit_at-pow_other, bit_at-lt}
use Rattle.job.specs.Marks.{marked}

-- a word with the mark f turned, by its marks
pub turned_mark : (w f k : ℕ) → f < 64 → marked (bit_xor w (1 * 2 ^ f % 2 ^ 64)) k ≡ cond (eqb k f) (not (marked w k)) (marked w k)
turned_mark w f k room = grind (arith, common_steps, one_shl, bit_at_xor, bit_at-pow_same, bit_at-pow_other, bit_at-lt)
