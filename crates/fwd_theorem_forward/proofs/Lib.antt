mod ForwardPeers
