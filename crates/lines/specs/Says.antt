-- What command a line says: how its bytes are made, and what its numerals are told as.
use Rattle.std.specs.Prelude.{◌≡◌, ℕ, true, List, [], ◌∷◌, ◌++◌, ℤ, Some, None, Ok, Err, codes, Option, Result}
use Rattle.coverage.specs.declared.range.Range.{Range}
use Rattle.coverage.specs.Axes.{Domain}
use Rattle.coverage.specs.Axes.{Point}
use Rattle.coverage.specs.declared.kind.Kind.{Kind}
use Rattle.coverage.specs.declared.kind.Kind.TheVariants.{Truth, Number}
use Rattle.lines.specs.declared.command.Command.{Command}
use Rattle.lines.specs.declared.command.Command.TheVariants.{Grid, Strip, Look, Show, Check, Run, Help}
use Rattle.lines.specs.Numerals.{is_count, is_number, worth, signed_worth, told_count, told_number, told_range, words_of, all_numbers}
use Rattle.lines.specs.Pieces.{is_grid_name}

-- bytes write a count, or a number, that is told so
pub record Counts (w : List ℕ) (n : ℕ) : Type 0 where
  pub count : is_count w ≡ true
  pub told : n ≡ told_count (worth w)

pub record Numbers (w : List ℕ) (z : ℤ) : Type 0 where
  pub number : is_number w ≡ true
  pub told : z ≡ told_number (signed_worth w)

-- bytes are an opening word, two numbers that are told as a range, and a closing bracket
pub record Bounds (opening bs : List ℕ) (r : Range) : Type 0 where
  pub lo : List ℕ
  pub hi : List ℕ
  pub text : bs ≡ opening ++ (lo ++ (codes " " ++ (hi ++ codes ")")))
  pub lo_number : is_number lo ≡ true
  pub hi_number : is_number hi ≡ true
  pub told : r ≡ told_range (signed_worth lo) (signed_worth hi)

abbrev pub AxisSays : List ℕ → List ℕ → Option Range → Type 0
AxisSays opening bs None = bs ≡ []
AxisSays opening bs (Some r) = Bounds opening bs r

abbrev pub KindSays : List ℕ → Kind → Type 0
KindSays bs Truth = bs ≡ codes " (truth)"
KindSays bs (Number r) = Bounds (codes " (span ") bs r

-- (grid NAME (x LO HI) (y LO HI) (t LO HI) (span LO HI)), y and t where the domain has them
pub record GridSays (line name : List ℕ) (d : Domain) (k : Kind) : Type 0 where
  pub xs : List ℕ
  pub ys : List ℕ
  pub ts : List ℕ
  pub ks : List ℕ
  pub text : line ≡ codes "(grid " ++ (name ++ (xs ++ (ys ++ (ts ++ (ks ++ codes ")")))))
  pub named : is_grid_name name ≡ true
  pub x : (r : Range) × (d.x ≡ Some r) × Bounds (codes " (x ") xs r
  pub y : AxisSays (codes " (y ") ys d.y
  pub t : AxisSays (codes " (t ") ts d.t
  pub kind : KindSays ks k

-- (strip C N (V V ..)): the cells as they are written, numbers with one blank between them, or nothing
abbrev pub AreCells : List ℕ → Type 0
AreCells [] = Unit {0}
AreCells (b ∷ bs) = all_numbers (words_of (b ∷ bs)) ≡ true

pub record StripSays (line : List ℕ) (c n : ℕ) (cells : List ℕ) : Type 0 where
  pub coverage : List ℕ
  pub strip : List ℕ
  pub text : line ≡ codes "(strip " ++ (coverage ++ (codes " " ++ (strip ++ (codes " (" ++ (cells ++ (codes ")" ++ codes ")"))))))
  pub coverage_told : Counts coverage c
  pub strip_told : Counts strip n
  pub are_cells : AreCells cells

-- (look C X Y T)
pub record LookSays (line : List ℕ) (c : ℕ) (p : Point) : Type 0 where
  pub coverage : List ℕ
  pub x : List ℕ
  pub y : List ℕ
  pub t : List ℕ
  pub text : line ≡ codes "(look " ++ (coverage ++ (codes " " ++ (x ++ (codes " " ++ (y ++ (codes " " ++ (t ++ codes ")")))))))
  pub coverage_told : Counts coverage c
  pub x_told : Numbers x p.x
  pub y_told : Numbers y p.y
  pub t_told : Numbers t p.t

-- (show C), (run P)
pub record CountSays (opening line : List ℕ) (n : ℕ) : Type 0 where
  pub count : List ℕ
  pub text : line ≡ opening ++ (count ++ codes ")")
  pub told : Counts count n

-- (check P TEXT)
pub record CheckSays (line : List ℕ) (p : ℕ) (query : List ℕ) : Type 0 where
  pub plan : List ℕ
  pub text : line ≡ codes "(check " ++ (plan ++ (codes " " ++ (query ++ codes ")")))
  pub plan_told : Counts plan p

-- the command that a line says
abbrev pub Says : List ℕ → Command → Type 0
Says line (Grid name d k) = GridSays line name.now d k
Says line (Strip c n cells) = StripSays line c n cells.now
Says line (Look c p) = LookSays line c p
Says line (Show c) = CountSays (codes "(show ") line c
Says line (Check p query) = CheckSays line p query.now
Says line (Run p) = CountSays (codes "(run ") line p
Says line Help = line ≡ codes "(help" ++ codes ")"

-- what was read is what the line says
abbrev pub Said : List ℕ → Result Command ℕ → Type 0
Said line (Ok c) = Says line c
Said line (Err p) = Unit {0}
