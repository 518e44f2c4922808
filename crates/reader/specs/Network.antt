-- A network that was read, as a graph.
--     graph n     the graph of its shape and its ends
-- Assumes nothing.
use Rattle.network.specs.Graph.{Graph}
use Rattle.reader.specs.declared.Network.{Network}
use Rattle.reader.specs.Ends.{graph_in}

abbrev pub graph : Network → Graph
graph n = graph_in n.shape n.ends.now
