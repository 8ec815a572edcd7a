use Rattle.benchlines.proofs.Words.{settings_read}
use Rattle.benchlines.proofs.settings.Settings.read.Goals as goal

pub returns : goal.returns
returns c =
    settings_read c.args.line.now c.wanted.result c.read_fields.result c.if-line-gt-LONGEST_LINE.false c.if-has_unknown_word.ensures
    c.wanted.ensures c.if-not-has_fields.ensures c.read_fields.ensures
