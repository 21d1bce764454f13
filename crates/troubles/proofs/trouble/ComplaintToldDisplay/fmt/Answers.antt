use Rattle.troubles.proofs.trouble.ComplaintToldDisplay.fmt.Goals as goal

-- What is written, of the column and the line as they were computed.
pub returns-clause-writes : goal.returns-clause-writes
returns-clause-writes g c = rw (c.saturating_add-column.ensures, c.line_of.ensures) at c.write.ensures.writes
