pub mod SocketLives
pub mod StopOrder
pub mod EffectCases
