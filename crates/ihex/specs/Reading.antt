-- What a reader stands for.
use Rattle.ihex.specs.declared.record.Reader.{Reader}
use Rattle.ihex.specs.Record.{Above}

-- What the lines so far leave for the next one.
abbrev pub above_of : Reader → Above
above_of reader = record { base = reader.base; ended = reader.ended }
