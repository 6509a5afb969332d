use Rattle.chip_core.proofs.laws.starts_are.Goals as goal

pub returns : goal.returns
returns c = λ starts chip past stands. λ i. record { tx = stands.parts.tx_start i; rx = stands.parts.rx_start i }
