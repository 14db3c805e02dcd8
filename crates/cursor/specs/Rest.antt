-- What stands in a text from a place on.
use Rattle.std.specs.Prelude.{ℕ, List, drop}
use Rattle.cursor.specs.declared.cursor.Cursor.{Cursor}

abbrev pub rest : Cursor → List ℕ
rest c = drop c.at c.text.now
