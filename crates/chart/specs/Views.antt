-- The chart that a view shows. Assumes nothing.
use Rattle.chart.specs.Decoded.{Decoded, decode}
use Rattle.chart.specs.declared.view.Chart.{Chart}

-- the decoded chart of a view
abbrev pub decoded : Chart → Decoded
decoded chart = decode chart.bytes.now
