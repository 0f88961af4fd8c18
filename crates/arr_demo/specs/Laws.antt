-- What is promised of the script of each number.
use Rattle.std.specs.Prelude.{◌≡◌, ℕ, ◌≤◌, List, length, Ok}
use Rattle.arr_tree.specs.declared.tree.Statement.{Statement}
use Rattle.arr_syntax.specs.Refused.{IsScript}
use Rattle.arr_tokens.specs.Tokens.{tokens}
use Rattle.arr_elab.specs.declared.step.Step.{Step}
use Rattle.arr_elab.specs.Outcome.{outcome}
use Rattle.arr_demo.specs.Script.{demo_script}

-- no script has more bytes
abbrev pub most_bytes : ℕ
most_bytes = 1048576

-- The text has no more bytes than a script may have, its tokens are these statements, none of them with a fault, and these come to steps.
pub record IsAccepted (text : List ℕ) : Type 0 where
  pub short : length text ≤ most_bytes
  pub statements : List Statement
  pub reads : IsScript (tokens text) statements
  pub steps : List Step
  pub accepts : outcome statements ≡ Ok steps

-- no script is refused
abbrev pub ScriptsAreAccepted : Type 0
ScriptsAreAccepted = (number : ℕ) → IsAccepted (demo_script number)
