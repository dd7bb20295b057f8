-- The laws of the fields.
use Rattle.std.specs.Prelude.{◌≡◌, ℕ, ◌<◌, ◌^◌, List, [], ◌∷◌, length}
use Rattle.std.specs.Int.{w16, w32, w64, to_be_bytes}
use Rattle.gt_bytes.specs.Spelling.{text}
use Rattle.gt_bytes.specs.Reading.{byte_at, number_at, name_at, text_at}
use Rattle.gt_bytes.specs.Standing.{IsField, IsReadAgain}

-- Each field is read exactly where its spelling stands.
pub record AreExact (bytes : List ℕ) : Type 0 where
  pub of_u8 : IsField bytes (byte_at bytes) (λ b. b ∷ []) (λ b. b < 256)
  pub of_u16 : IsField bytes (number_at w16 bytes) (to_be_bytes w16) (λ n. n < 2 ^ 16)
  pub of_u32 : IsField bytes (number_at w32 bytes) (to_be_bytes w32) (λ n. n < 2 ^ 32)
  pub of_u64 : IsField bytes (number_at w64 bytes) (to_be_bytes w64) (λ n. n < 2 ^ 64)
  pub of_name : IsField bytes (name_at bytes) (λ x. x) (λ x. length x ≡ 20)
  pub of_text : IsField bytes (text_at bytes) text (λ x. length x < 2 ^ 16)

-- This holds in all bytes.
abbrev pub FieldsAreExact : Type 0
FieldsAreExact = (bytes : List ℕ) → AreExact bytes

-- Each field that fits is read again, whatever stands before and after it.
pub record FieldsAreReadAgain : Type 0 where
  pub of_u8 : IsReadAgain byte_at (λ b. b ∷ []) (λ b. b < 256)
  pub of_u16 : IsReadAgain (number_at w16) (to_be_bytes w16) (λ n. n < 2 ^ 16)
  pub of_u32 : IsReadAgain (number_at w32) (to_be_bytes w32) (λ n. n < 2 ^ 32)
  pub of_u64 : IsReadAgain (number_at w64) (to_be_bytes w64) (λ n. n < 2 ^ 64)
  pub of_name : IsReadAgain name_at (λ x. x) (λ x. length x ≡ 20)
  pub of_text : IsReadAgain text_at text (λ x. length x < 2 ^ 16)
