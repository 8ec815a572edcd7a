-- Lines and replies as they are meant, of the definitions themselves. Assumes nothing.
use Rattle.std.specs.Prelude.{◌≡◌, true, false, [], ◌∷◌, ◌++◌, replicate, Ok, Err, codes}
use Rattle.model.specs.declared.fault.LineFault.{LineFault}
use Rattle.model.specs.declared.row.Kind.{Kind}
use Rattle.model.specs.declared.row.Row.{Row}
use Rattle.lines.specs.declared.command.Request.{Request}
use Rattle.lines.specs.declared.setup.JudgeWord.{JudgeWord}
use Rattle.lines.specs.declared.setup.RuleWord.{RuleWord}
use Rattle.lines.specs.Fields.{fields}
use Rattle.lines.specs.Numbers.{number_of}
use Rattle.lines.specs.Commands.{asked, blank}
use Rattle.lines.specs.Setups.{setup_of}
use Rattle.lines.specs.Replies.{row_line, gone_line, board_line, refused_line}

-- spaces part fields, in runs and at the ends; a tab does not
pub record FieldsShown : Type 0 where
  pub plain : fields (codes "  leave   7 ") ≡ codes "leave" ∷ (codes "7" ∷ [])
  pub tab : fields (codes "leave" ++ (9 ∷ codes "7")) ≡ (codes "leave" ++ (9 ∷ codes "7")) ∷ []
  pub none : fields (codes "   ") ≡ []

-- zeros in front are fine; a sign, a point and a number past the range are not
pub record NumbersShown : Type 0 where
  pub zeros : number_of (codes "007") ≡ Ok 7
  pub largest : number_of (codes "4294967295") ≡ Ok 4294967295
  pub past : number_of (codes "4294967296") ≡ Err LineFault.Number
  pub far_past : number_of (codes "18446744073709551617") ≡ Err LineFault.Number
  pub sign : number_of (codes "-1") ≡ Err LineFault.Number
  pub point : number_of (codes "1.5") ≡ Err LineFault.Number

-- a line after the first
pub record CommandsShown : Type 0 where
  pub admit : asked (codes "admit 3 10 20 20") ≡ Ok (Request.Admit (record { key = 3; budget = 10; deadline = 20; period = 20 }))
  pub leave : asked (codes "leave 007") ≡ Ok (Request.Leave 7)
  pub nothing : asked (codes " ") ≡ Ok Request.Blank
  pub word : asked (codes "board 2 1 0 demand best") ≡ Err LineFault.Word
  pub capital : asked (codes "Admit 1 6 10 10") ≡ Err LineFault.Word
  pub count : asked (codes "leave x y") ≡ Err LineFault.Fields
  pub number : asked (codes "leave x") ≡ Err LineFault.Number

-- the first line
pub record SetupsShown : Type 0 where
  pub board : setup_of (codes "board 2 1 0 demand best")
      ≡ Ok (record { processors = 2; steps = 1; refinements = 0; judge = JudgeWord.Demand; rule = RuleWord.Best })
  pub judge : setup_of (codes "board 2 1 0 x") ≡ Err LineFault.Word
  pub missing : setup_of (codes "board 2 1 0 demand") ≡ Err LineFault.Fields
  pub rule : setup_of (codes "board 2 1 0 demand x 7") ≡ Err LineFault.Word
  pub shift : setup_of (codes "board 2 demand best") ≡ Err LineFault.Fields
  pub other : setup_of (codes "admit 1 6 10 10") ≡ Err LineFault.Word
  pub number : setup_of (codes "board two 1 0 demand best") ≡ Err LineFault.Number

-- 80 bytes are a line, 81 are too long, whatever they are
pub record LengthsShown : Type 0 where
  pub eighty : asked (replicate 80 32) ≡ Ok Request.Blank
  pub longer : asked (replicate 81 32) ≡ Err LineFault.Long
  pub first : setup_of (replicate 81 32) ≡ Err LineFault.Long
  pub blank_line : blank (replicate 80 32) ≡ true
  pub long_line : blank (replicate 81 32) ≡ false

-- replies end with byte 10
pub record RepliesShown : Type 0 where
  pub row : (r : Row) → r.key ≡ 3 → r.kind ≡ Kind.Head → r.timing.budget ≡ 7 → r.timing.deadline ≡ 17
      → row_line 2 r ≡ codes "3 head 2 7 17" ++ (10 ∷ [])
  pub gone : gone_line 1 ≡ codes "1 gone" ++ (10 ∷ [])
  pub board : board_line 2 ≡ codes "board 2" ++ (10 ∷ [])
  pub refused : refused_line 17 ≡ codes "refused 17" ++ (10 ∷ [])

abbrev pub Shown : Type 0
Shown = FieldsShown × NumbersShown × CommandsShown × SetupsShown × LengthsShown × RepliesShown
