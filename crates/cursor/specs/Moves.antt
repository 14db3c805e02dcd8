-- How a reader leaves its cursor.
use Rattle.std.specs.Prelude.{◌≡◌, ◌≤◌}
use Rattle.cursor.specs.declared.cursor.Cursor.{Cursor}

-- further on in the same text, or where it was
pub record GoesOn (old new : Cursor) : Type 0 where
  pub text : new.text.now ≡ old.text.now
  pub forward : old.at ≤ new.at
