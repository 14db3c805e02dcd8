use Rattle.std.proofs.Common.{◌≡◌, ℕ, ◌-◌, List, ◌++◌, length, replicate, string_bytes, Result, Ok, Err, is_ok, if◌then◌else◌, IfOk, ap, ◌∙◌, append_assoc, arith}
use Rattle.roofunit.proofs.picture.push_column.Goals as goal

-- what is said of the text that is put last
ends : {E : Type 0} (r : Result (Unit {0}) E) (new old text all : List ℕ) → new ≡ (if is_ok r then old ++ text else old) → old ++ text ≡ all → IfOk r (λ _. new ≡ all)
ends (Ok u) new old text all h e = h ∙ e
ends (Err f) new old text all h e = tt

pub returns : goal.returns
returns c =
    let drawn = string_bytes c.args.picture.now in
    let text = c.args.text.now in
    let k : c.loop-k._k ≡ c.args.width - length text = omega arith in
    let b : string_bytes c.loop-k.picture ≡ drawn ++ replicate (c.args.width - length text) 32 = c.loop-k.invariant ∙ ap (λ (n : ℕ). drawn ++ replicate n 32) k in
    ends c.push_str-2.result (string_bytes c.push_str-2.new.self) (string_bytes c.loop-k.picture) text (drawn ++ (replicate (c.args.width - length text) 32 ++ text)) c.push_str-2.ensures.bytes (ap (λ (v : List ℕ). v ++ text) b ∙ append_assoc drawn (replicate (c.args.width - length text) 32) text)
