-- Tests, and what they say.
use Rattle.std.specs.Prelude.{◌≡◌, Bool, true, false}

-- the one or the other, by a test
abbrev pub pick {ℓ} : {A : Type ℓ} → Bool → A → A → A
pick true x y = x
pick false x y = y

-- the test is true exactly where P holds
pub record Says (b : Bool) (P : Type 0) : Type 0 where
  pub to : b ≡ true → P
  pub from : P → b ≡ true
