-- "The program `blocks` loads a file from standard input, of which it takes the first 65,536 bytes": what of this a contract can say. Assumes nothing.
use Rattle.std.specs.Prelude.{◌≡◌, List, ℕ, ◌≤◌, length}
use Rattle.report.specs.declared.Text.{Text}
use Rattle.links.specs.declared.LoadingRule.{LoadingRule}
use Rattle.links.specs.declared.LoadingRule.TheVariants.{NearAll}
use Rattle.report.specs.Text.{file_text_by, text_of}

-- the text of some file of at most 65,536 bytes, loaded in a way. Which bytes standard input has, no contract can say
pub record PrintedBy (rule : LoadingRule) (r : Text) : Type 0 where
  pub file : List ℕ
  pub taken : length file ≤ 65536
  pub text : r ≡ text_of (file_text_by rule file)

-- .. in document 01's way
abbrev pub Printed : Text → Type 0
Printed r = PrintedBy NearAll r
